-- Seats inside: each open session with its pass, and what a session and its pass make of the words.
use Rattle.std.specs.Prelude.{◌≡◌, ℕ, List, length, map, Option, Some, None}
use Rattle.std.specs.Option.{option_map}
use Rattle.mesh_model.specs.Meshes.{MeshLists}
use Rattle.session_model.specs.Sessions.{SessionState}
use Rattle.session_locks.specs.Passes.{IsPassOf}
use Rattle.token_words.specs.Sessions.{IsSession}
use Rattle.token_words.specs.PlainTokens.{patch_count, is_user, is_locker, session_of}
use Rattle.token_words.specs.declared.plain_words.PlainTokens.{PlainTokens}
use Rattle.token_words.specs.declared.session_sets.TheConstants.{SESSIONS}
use Rattle.session_seats.specs.declared.seat.Seat.{Seat}
use Rattle.session_seats.specs.declared.seats.Seats.TheInside.{Inside}
use Rattle.session_seats.specs.Seats.{SeatsSeen, at_seat}

abbrev pub seat_state : Seat → SessionState
seat_state seat = seat.session.state

-- the sessions at the seats
abbrev pub sessions_of : List (Option Seat) → List (Option SessionState)
sessions_of seats = map (option_map seat_state) seats

abbrev pub seats_view : Inside → SeatsSeen
seats_view s = record { mesh = s.mesh.now.lists; sessions = sessions_of s.seats.items }

-- the session and the pass have this number, and the session is over the mesh
pub record IsSeat (mesh : MeshLists) (i : ℕ) (seat : Seat) : Type 0 where
  pub over : seat.session.mesh ≡ mesh
  pub session : seat.session.number ≡ i
  pub pass : session_of seat.pass ≡ i

-- there is a seat for each session
pub record AreSeats (mesh : MeshLists) (seats : List (Option Seat)) : Type 0 where
  pub many : length seats ≡ SESSIONS
  pub each : (i : ℕ) (seat : Seat) → at_seat seats i ≡ Some seat → IsSeat mesh i seat

abbrev pub AreSeatsInside : Inside → Type 0
AreSeatsInside s = AreSeats s.mesh.now.lists s.seats.items

-- the pass is the session's
abbrev pub HasPass : PlainTokens → Seat → Type 0
HasPass words seat = IsPassOf (IsSession (session_of seat.pass)) (patch_count words) (is_user words (session_of seat.pass)) (is_locker words (session_of seat.pass)) seat.session

-- A session with its seat at a table.
use Rattle.std.specs.Prelude.{◌≡◌, ℕ, Option, Some, None}
use Rattle.atomic_table.specs.Seated.{TableId}
use Rattle.mesh_model.specs.Meshes.{MeshLists}
use Rattle.session_model.specs.Sessions.{SessionState}
use Rattle.session_model.specs.SessionStates.{unprinted_round}
use Rattle.session_locks.specs.Sessions.{SessionSeen, IsSession}
use Rattle.session_locks.specs.Passes.{IsPassOf}
use Rattle.token_table.specs.Known.{has}
use Rattle.token_table.specs.Seats.{SessionSeen as SeatSeen, IsSeatOf, IsIdle}

-- the seat is the session's: what it uses and what it has locked is what the session does
abbrev pub HasSeat : TableId → SeatSeen → SessionSeen → Type 0
HasSeat table seat seen = IsPassOf (IsSeatOf table seat) table.words (has seat.own.uses) (has seat.own.locks) seen

-- the session of this number over the mesh, with its seat
pub record IsSeated (table : TableId) (mesh : MeshLists) (number : ℕ) (seat : SeatSeen)
    (seen : SessionSeen) : Type 0 where
  pub pass : HasSeat table seat seen
  pub facts : IsSession seen
  pub over : seen.mesh ≡ mesh
  pub numbered : seen.number ≡ number

-- no round goes on
abbrev pub IsResting : SessionState → Type 0
IsResting s = unprinted_round s ≡ None

-- between two lines: an open session has its seat and no round that goes on, and the seat of none is idle
abbrev pub IsSeatedOr : TableId → MeshLists → ℕ → SeatSeen → Option SessionSeen → Type 0
IsSeatedOr table mesh number seat None = IsIdle table seat
IsSeatedOr table mesh number seat (Some seen) = IsSeated table mesh number seat seen × IsResting seen.state

-- the seat is that of the session, or idle where none is open
abbrev pub HasSeatOr : TableId → SeatSeen → Option SessionSeen → Type 0
HasSeatOr table seat None = IsIdle table seat
HasSeatOr table seat (Some seen) = HasSeat table seat seen

abbrev pub state_of : Option SessionSeen → Option SessionState
state_of None = None
state_of (Some seen) = Some seen.state

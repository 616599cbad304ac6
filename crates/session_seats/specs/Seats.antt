-- Sessions at their seats, and the state of a run that they make with the tiers, the words and the board.
use Rattle.std.specs.Prelude.{◌≡◌, ℕ, zero, suc, ◌-◌, List, length, replicate, Option, Some, None, slice_index_or, slice_set}
use Rattle.std.specs.Option.{option_map}
use Rattle.mesh_model.specs.Meshes.{MeshLists}
use Rattle.round_model.specs.Refiners.{Refining}
use Rattle.round_model.specs.Views.{ViewSeen}
use Rattle.session_model.specs.Sessions.{SessionState, locks}
use Rattle.session_model.specs.Told.{SessionTold, session_told}
use Rattle.session_model.specs.SessionStates.{IsSessionState}
use Rattle.session_model.specs.DoneRounds.{HasDone}
use Rattle.tier_model.specs.Tiers.{TierState}
use Rattle.tier_model.specs.Ranks.{Posted}
use Rattle.token_words.specs.PlainTokens.{epoch_in, is_user_in, is_locker_in}
use Rattle.token_words.specs.declared.entries.Entry.{Entry}
use Rattle.token_words.specs.declared.session_sets.TheConstants.{SESSIONS}
use Rattle.run_model.specs.States.{State, seat_uses}

-- ---- seats

-- what stands at the seat of this number: session 1's is the first of the list
abbrev pub at_seat : {A : Type 0} → List (Option A) → ℕ → Option A
at_seat seats zero = None
at_seat seats (suc i) = slice_index_or seats i None

-- the mesh, and the session at each seat
pub record SeatsSeen : Type 0 where
  pub mesh : MeshLists
  pub sessions : List (Option SessionState)

-- a seat for each session, none of them open
abbrev pub no_sessions : List (Option SessionState)
no_sessions = replicate SESSIONS None

abbrev pub empty_seats : MeshLists → SeatsSeen
empty_seats mesh = record { mesh = mesh; sessions = no_sessions }

-- this stands at the seat of this number, in place of what stood there
abbrev pub with_seat : SeatsSeen → ℕ → Option SessionState → SeatsSeen
with_seat seats i seat = record { mesh = seats.mesh; sessions = slice_set seats.sessions (i - 1) seat }

-- ---- the state of a run

-- the tiers, with the epochs and the users that the words tell, the open sessions, and the posted views
unfoldable pub state_of : List TierState → List Entry → List (Option SessionState) → List (Option Posted) → ℕ → State
state_of tiers words sessions posted version = record {
  chain = record { tiers = tiers; epochs = epoch_in words };
  users = is_user_in words;
  sessions = at_seat sessions;
  posted = at_seat posted;
  version = version;
}

-- the words are those of the sessions
pub record AreSeated (mesh : MeshLists) (words : List Entry) (sessions : List (Option SessionState)) : Type 0 where
  -- each patch has a word
  pub many : length words ≡ length mesh.index.fields
  -- each open session is one over the mesh
  pub are : (i : ℕ) (s : SessionState) → at_seat sessions i ≡ Some s → IsSessionState mesh s
  -- what it uses and what it has locked is what the words say, and a session that isn't open has no use
  pub uses_are : (i p : ℕ) → is_user_in words i p ≡ seat_uses (at_seat sessions i) p
  pub locks_are : (i : ℕ) (s : SessionState) → at_seat sessions i ≡ Some s → (p : ℕ) → is_locker_in words i p ≡ locks s p

-- ---- what a script tells of sessions

-- what is told of the session of this number, if it is open
abbrev pub seat_told : List (Option SessionState) → ℕ → Option SessionTold
seat_told sessions i = option_map session_told (at_seat sessions i)

-- the session is open
pub record IsOpen (sessions : List (Option SessionState)) (i : ℕ) : Type 0 where
  pub session : SessionState
  pub at : at_seat sessions i ≡ Some session

-- the session is open and has a view
pub record HasView (sessions : List (Option SessionState)) (i : ℕ) : Type 0 where
  pub session : SessionState
  pub at : at_seat sessions i ≡ Some session
  pub view : ViewSeen
  pub viewed : session.view ≡ Some view

-- the session is open and has a round
pub record HasRound (sessions : List (Option SessionState)) (i : ℕ) : Type 0 where
  pub session : SessionState
  pub at : at_seat sessions i ≡ Some session
  pub round : Refining
  pub there : session.round ≡ Some round

-- the session is open, and its round is done and wasn't printed yet
pub record IsDoneAt (sessions : List (Option SessionState)) (i : ℕ) : Type 0 where
  pub session : SessionState
  pub at : at_seat sessions i ≡ Some session
  pub done : HasDone session

-- What callers see of a session, and what its parts keep.
use Rattle.std.specs.Prelude.{◌≡◌, ℕ, Bool, false, List, length, replicate, Option, Some, None, slice_index_or}
use Rattle.mesh_model.specs.Meshes.{MeshLists, IsMesh}
use Rattle.round_model.specs.declared.asks.Ask.TheVariants.{Done}
use Rattle.round_model.specs.Views.{ViewSeen}
use Rattle.round_model.specs.Refiners.{Refining, pending_ask}
use Rattle.session_model.specs.Sessions.{SessionState, locks}
use Rattle.session_model.specs.SessionStates.{IsSessionState}

-- the mesh, the session's number, and its state
pub record SessionSeen : Type 0 where
  pub mesh : MeshLists
  pub number : ℕ
  pub state : SessionState

abbrev pub session_of : MeshLists → ℕ → SessionState → SessionSeen
session_of mesh number state = record { mesh = mesh; number = number; state = state }

abbrev pub with_state : SessionSeen → SessionState → SessionSeen
with_state seen state = session_of seen.mesh seen.number state

-- the old locks: what is locked without a round, and none beside a round
unfoldable pub old_of : Option Refining → List Bool → List Bool
old_of None locked = locked
old_of (Some r) locked = replicate (length locked) false

abbrev pub session_seen : MeshLists → ℕ → Option ViewSeen → Option Refining → Bool → List Bool → Option ℕ → ℕ → SessionSeen
session_seen mesh number view round printed locked flight frames =
    session_of mesh number (record { view = view; round = round; printed = printed; leftover = old_of round locked; flight = flight; frames = frames })

-- a session over an accepted mesh
pub record IsSession (seen : SessionSeen) : Type 0 where
  pub accepted : IsMesh seen.mesh
  pub is : IsSessionState seen.mesh seen.state

-- the flags say which patches are locked
pub record AreParts (seen : SessionSeen) (locked : List Bool) : Type 0 where
  pub session : IsSession seen
  pub many : length locked ≡ length seen.mesh.index.fields
  pub flags : (p : ℕ) → slice_index_or locked p false ≡ locks seen.state p

-- there is a round, and it is done
pub record IsDone (s : SessionState) : Type 0 where
  pub round : Refining
  pub there : s.round ≡ Some round
  pub done : pending_ask round ≡ Done

-- What is to be kept of a session whose text is read: its view, how many frames it printed, and how many patches it
-- has locked.
use Rattle.std.specs.Prelude.{◌≡◌, ℕ, ◌+◌, false, List, length, Option, Some, None}
use Rattle.file_model.specs.declared.fields.Try.{Try}
use Rattle.mesh_model.specs.Meshes.{MeshLists}
use Rattle.round_model.specs.Views.{ViewSeen, view_rules}
use Rattle.session_model.specs.Counts.{count_below}
use Rattle.session_model.specs.Locks.{round_locks}
use Rattle.session_model.specs.Sessions.{SessionState}
use Rattle.session_model.specs.SessionStates.{IsSessionState, unprinted_round}
use Rattle.session_model.specs.DoneRounds.{HasDone}
use Rattle.session_model.specs.Freeing.{uses_left, FreesAll}
use Rattle.session_model.specs.Finishes.{Finishes, pairs_of}
use Rattle.audit_frames.specs.Answers.{answered}

pub record Summary : Type 0 where
  pub view : Option ViewSeen
  pub frames : ℕ
  pub locks : ℕ

-- a session as it opens
abbrev pub fresh : Summary
fresh = record { view = None; frames = 0; locks = 0 }

abbrev pub summary_with_view : ViewSeen → Summary → Summary
summary_with_view view m = record { view = Some view; frames = m.frames; locks = m.locks }

abbrev pub summary_freed : Summary → Summary
summary_freed m = record { view = m.view; frames = m.frames; locks = 0 }

-- how many patches a round with these answers has locked
abbrev pub locks_of : MeshLists → ViewSeen → List Try → ℕ
locks_of mesh view tries = count_below (length mesh.index.fields) (round_locks (answered (view_rules view mesh) tries))

abbrev pub summary_printed : MeshLists → ViewSeen → List Try → Summary → Summary
summary_printed mesh view tries m = record { view = m.view; frames = m.frames + 1; locks = locks_of mesh view tries }

-- the session is one over the mesh, of which this is kept; none of its rounds goes on, and no try is in flight
pub record Stands (mesh : MeshLists) (s : SessionState) (m : Summary) : Type 0 where
  pub is : IsSessionState mesh s
  pub view : s.view ≡ m.view
  pub frames : s.frames ≡ m.frames
  pub locks : uses_left s ≡ m.locks
  pub no_flight : s.flight ≡ None
  pub none_going : unprinted_round s ≡ None

-- a session can give back all that it uses, and so many locks are given back
pub record CanFree (s : SessionState) : Type 0 where
  pub unlocks : ℕ
  pub last : SessionState
  pub frees : FreesAll s unlocks last

-- a session finishes a round with these answers
pub record CanPrint (mesh : MeshLists) (epochs : ℕ → ℕ) (s : SessionState) (view : ViewSeen)
    (tries : List Try) : Type 0 where
  pub last : SessionState
  pub finishes : Finishes mesh false epochs s (pairs_of tries) last
  pub done : HasDone last
  pub round_is : done.round ≡ answered (view_rules view mesh) tries

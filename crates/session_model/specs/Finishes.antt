-- Steps until a round is done.
use Rattle.std.proofs.Common.{◌≡◌, ℕ, Bool, true, false, List, [], ◌++◌, map}
use Rattle.file_model.specs.declared.fields.Try.{Try}
use Rattle.mesh_model.specs.Meshes.{MeshLists}
use Rattle.session_model.specs.declared.steps.Stepped.{Stepped}
use Rattle.session_model.specs.declared.steps.Stepped.TheVariants.{Done}
use Rattle.session_model.specs.Sessions.{SessionState}
use Rattle.session_model.specs.Steps.{stepped, step, try_pairs, IsOfEpochs}
use Rattle.session_model.specs.SessionStates.{IsSessionState, tries_of}
use Rattle.session_model.specs.DoneRounds.{HasDone}

-- steps that were made, none of them done, with the tries among them: each was answered by its patch's epoch,
-- where epochs are told
pub data Steps (mesh : MeshLists) (told : Bool) (epochs : ℕ → ℕ) (s : SessionState) : List (ℕ × ℕ) → SessionState → Type 0 where
  NoStep : Steps mesh told epochs s [] s
  OneMore : (tries : List (ℕ × ℕ)) (t : SessionState) (did : Stepped) (epoch : ℕ) (u : SessionState) → Steps mesh told epochs s tries t → stepped did u ≡ step mesh t epoch → (did ≡ Done → ⊥) → (told ≡ true → IsOfEpochs epochs did) → Steps mesh told epochs s (tries ++ try_pairs did) u

-- steps that were made, and one that was done
pub record Finishes (mesh : MeshLists) (told : Bool) (epochs : ℕ → ℕ) (s : SessionState) (tries : List (ℕ × ℕ)) (t : SessionState) : Type 0 where
  pub last : SessionState
  pub steps : Steps mesh told epochs s tries last
  pub epoch : ℕ
  pub done : stepped Done t ≡ step mesh last epoch

-- tries as their patches and epochs
abbrev pub pairs_of : List Try → List (ℕ × ℕ)
pairs_of tries = map (λ (t : Try). (t.patch, t.epoch)) tries

-- what steps keep, and by what the tries of the round that goes on grow
pub record IsAfterSteps (mesh : MeshLists) (s : SessionState) (tries : List (ℕ × ℕ)) (t : SessionState) : Type 0 where
  pub is : IsSessionState mesh t
  pub view : t.view ≡ s.view
  pub tries_are : pairs_of (tries_of t) ≡ pairs_of (tries_of s) ++ tries

-- a session that has finished has a round that is done, whose tries are those that were made since it began
pub record HasFinished (mesh : MeshLists) (s : SessionState) (tries : List (ℕ × ℕ)) (t : SessionState) : Type 0 where
  pub is : IsSessionState mesh t
  pub done : HasDone t
  pub tries_are : pairs_of done.round.tries ≡ pairs_of (tries_of s) ++ tries

-- ---- a session that finishes, whatever answers are given

-- the epochs that answered tries
abbrev pub answers_in : List (ℕ × ℕ) → List ℕ
answers_in tries = map (λ (try : ℕ × ℕ). try.1) tries

-- the epochs are the first of those given, or go past all of them
pub data AreGiven (given epochs : List ℕ) : Type 0 where
  FirstOf : (rest : List ℕ) → epochs ++ rest ≡ given → AreGiven given epochs
  GoPast : (more : List ℕ) → given ++ more ≡ epochs → AreGiven given epochs

-- steps until the round is done, where the given epochs answer the tries as they come
pub record FinishesBy (mesh : MeshLists) (epochs : ℕ → ℕ) (given : List ℕ) (s : SessionState) : Type 0 where
  pub tries : List (ℕ × ℕ)
  pub last : SessionState
  pub finishes : Finishes mesh false epochs s tries last
  pub answers : AreGiven given (answers_in tries)

-- steps until the round is done, with these tries
pub record FinishesAs (mesh : MeshLists) (epochs : ℕ → ℕ) (s : SessionState) (tries : List Try) : Type 0 where
  pub last : SessionState
  pub finishes : Finishes mesh false epochs s (pairs_of tries) last

-- What one turn of a tier does to the words, and to the store.
use Rattle.std.specs.Prelude.{◌≡◌, ℕ, ◌≤◌, Bool, true, List, ◌++◌, Result, IfOk, MatchResult}
use Rattle.file_model.specs.declared.faults.FileFault.{FileFault}
use Rattle.view_outside.specs.Faults.{Rose}
use Rattle.view_outside.specs.Taken.{RisesAtMost}
use Rattle.token_words.specs.Changes.{Stays, SetsStay}
use Rattle.token_words.specs.Sessions.{session_count}
use Rattle.tier_model.specs.declared.turns.Turn.{Turn}
use Rattle.tier_model.specs.Tiers.{TierState}
use Rattle.tier_model.specs.Answers.{IfFault, IfChanged, IfEvict, IfKept}
use Rattle.transfer_step.specs.TurnWords.{TurnsEpochs, TurnTakes, misses_in, next_size}

-- what a keeper tells of its words
pub record WordsSeen : Type 0 where
  pub patches : ℕ
  pub epochs : ℕ → ℕ
  pub pinned : ℕ → Bool
  pub users : ℕ → ℕ → Bool
  pub lockers : ℕ → ℕ → Bool
  pub misses : List (ℕ × ℕ)

abbrev pub words_of : ℕ → (ℕ → ℕ) → (ℕ → Bool) → (ℕ → ℕ → Bool) → (ℕ → ℕ → Bool) → List (ℕ × ℕ) → WordsSeen
words_of patches epochs pinned users lockers misses = record { patches = patches; epochs = epochs; pinned = pinned; users = users; lockers = lockers; misses = misses }

-- how many sessions use the patch
abbrev pub uses_of : WordsSeen → ℕ → ℕ
uses_of a p = session_count (λ session. a.users session p)

-- a turn changed the words, if there are words, as its answer says; without memory it changed none
pub record TurnsWords {E : Type 0} (has_words tells_sets tells_misses : Bool) (result : Result Turn E) (a b : WordsSeen) : Type 0 where
  pub epochs : MatchResult result (λ answer. TurnsEpochs has_words answer a.epochs b.epochs) (λ _. Stays a.epochs b.epochs)
  pub free : has_words ≡ true → tells_sets ≡ true → IfOk result (λ answer. IfEvict answer (λ p. uses_of a p ≡ 0))
  pub found : has_words ≡ true → tells_sets ≡ true → IfOk result (λ answer. IfKept answer (λ p uses. uses ≡ uses_of a p))
  pub misses : tells_misses ≡ true → MatchResult result (λ answer. b.misses ≡ a.misses ++ misses_in answer) (λ _. b.misses ≡ a.misses)
  pub pins : Stays a.pinned b.pinned
  pub users : tells_sets ≡ true → SetsStay a.users b.users
  pub lockers : tells_sets ≡ true → SetsStay a.lockers b.lockers
  pub patches : b.patches ≡ a.patches

-- a turn of the lowest tier took so many bytes from the store, and where it answers that the store failed or that a
-- patch has changed, it did
pub record TurnsStore {E : Type 0} (finds : ℕ → FileFault → Type 0) (s : TierState) (result : Result Turn E) (faults faults_now bytes bytes_now : ℕ) : Type 0 where
  pub later : faults ≤ faults_now
  pub fault : IfOk result (λ answer. IfFault answer (λ _. Rose faults faults_now))
  pub changed : IfOk result (λ answer. IfChanged answer finds)
  pub taken : MatchResult result (λ answer. TurnTakes s.sizes answer bytes bytes_now) (λ _. RisesAtMost bytes bytes_now (next_size s))

-- no turn of a tier over another answers that the store failed or that a patch has changed
pub record NeverFails {E : Type 0} (result : Result Turn E) : Type 0 where
  pub fault : IfOk result (λ answer. IfFault answer (λ _. ⊥))
  pub changed : IfOk result (λ answer. IfChanged answer (λ _ _. ⊥))

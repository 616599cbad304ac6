-- What a fetch does to the words: nothing.
use Rattle.std.proofs.Common.{◌≡◌, ℕ, Bool, true, false, List, ◌++◌, Result, Ok, Err, IfOk, MatchResult, refl, sym, append-nil}
use Rattle.token_words.specs.Changes.{Stays}
use Rattle.tier_model.specs.declared.turns.Turn.{Turn}
use Rattle.tier_model.specs.declared.turns.Turn.TheVariants.{Reserve, Evict, Kept, Got, Lost, Fault, Changed, Commit, Idle}
use Rattle.tier_model.specs.Ties.{epochs_after}
use Rattle.transfer_step.specs.TurnWords.{TurnsEpochs, misses_in, IsFetching}

fetching_epochs : (has : Bool) (epochs : ℕ → ℕ) (a : Turn) → IsFetching a → TurnsEpochs has a epochs epochs
unfolding epochs_after
fetching_epochs false epochs (Reserve p) kind = absurd kind
fetching_epochs false epochs (Evict p) kind = absurd kind
fetching_epochs false epochs (Kept p uses) kind = absurd kind
fetching_epochs false epochs (Got p) kind = λ p. refl
fetching_epochs false epochs (Lost p) kind = λ p. refl
fetching_epochs false epochs (Fault p) kind = λ p. refl
fetching_epochs false epochs (Changed p fault) kind = λ p. refl
fetching_epochs false epochs (Commit p) kind = absurd kind
fetching_epochs false epochs Idle kind = absurd kind
fetching_epochs true epochs (Reserve p) kind = absurd kind
fetching_epochs true epochs (Evict p) kind = absurd kind
fetching_epochs true epochs (Kept p uses) kind = absurd kind
fetching_epochs true epochs (Got p) kind = λ p. refl
fetching_epochs true epochs (Lost p) kind = λ p. refl
fetching_epochs true epochs (Fault p) kind = λ p. refl
fetching_epochs true epochs (Changed p fault) kind = λ p. refl
fetching_epochs true epochs (Commit p) kind = absurd kind
fetching_epochs true epochs Idle kind = absurd kind

fetching_misses : (misses : List (ℕ × ℕ)) (a : Turn) → IsFetching a → misses ≡ misses ++ misses_in a
unfolding misses_in
fetching_misses misses (Reserve p) kind = absurd kind
fetching_misses misses (Evict p) kind = absurd kind
fetching_misses misses (Kept p uses) kind = absurd kind
fetching_misses misses (Got p) kind = sym (append-nil misses)
fetching_misses misses (Lost p) kind = sym (append-nil misses)
fetching_misses misses (Fault p) kind = sym (append-nil misses)
fetching_misses misses (Changed p fault) kind = sym (append-nil misses)
fetching_misses misses (Commit p) kind = absurd kind
fetching_misses misses Idle kind = absurd kind

pub fetched_epochs : {E : Type 0} (has : Bool) (epochs : ℕ → ℕ) (r : Result Turn E) → IfOk r IsFetching → MatchResult r (λ a. TurnsEpochs has a epochs epochs) (λ _. Stays epochs epochs)
fetched_epochs has epochs (Ok a) kind = fetching_epochs has epochs a kind
fetched_epochs has epochs (Err e) kind = λ p. refl

pub fetched_misses : {E : Type 0} (misses : List (ℕ × ℕ)) (r : Result Turn E) → IfOk r IsFetching → MatchResult r (λ a. misses ≡ misses ++ misses_in a) (λ _. misses ≡ misses)
fetched_misses misses (Ok a) kind = fetching_misses misses a kind
fetched_misses misses (Err e) kind = refl

-- What an eviction's answer means.
use Rattle.std.specs.Prelude.{ℕ, ◌+◌, ◌≤◌, List, [], ◌∷◌}
use Rattle.token_words.specs.declared.answers.Evict.{Evict}
use Rattle.token_words.specs.declared.answers.Evict.TheVariants.{Gone, Kept}

-- the uses that were found
abbrev pub uses_found : Evict → ℕ
uses_found Gone = 0
uses_found (Kept uses) = uses

-- a patch is kept only where it has a use
abbrev pub NeedsUse : Evict → Type 0
NeedsUse Gone = Unit {0}
NeedsUse (Kept uses) = 1 ≤ uses

-- the epoch of a patch that had this epoch
abbrev pub epoch_after : Evict → ℕ → ℕ
epoch_after Gone epoch = epoch + 1
epoch_after (Kept uses) epoch = epoch

-- what is added to the refused evictions
abbrev pub misses_of : Evict → ℕ → List (ℕ × ℕ)
misses_of Gone patch = []
misses_of (Kept uses) patch = (patch, uses) ∷ []

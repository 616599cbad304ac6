-- What callers see of the patches that are missing.
use Rattle.std.specs.Prelude.{ℕ, List, length, Option, is_some}
use Rattle.tier_heap.specs.Entries.{rank_at}
use Rattle.tier_budget.specs.PatchSets.{HasAll}
use Rattle.tier_budget.specs.declared.missing_heap.MissingHeap.TheInside.{Inside}

abbrev pub missing_view : Inside → List (Option ℕ)
missing_view m = m.heap

-- each patch with a rank is in the set
abbrev pub HasRanked : List (Option ℕ) → List ℕ → Type 0
HasRanked ranks words = HasAll (length ranks) (λ p. is_some (rank_at ranks p)) words

abbrev pub AreMissingInside : Inside → Type 0
AreMissingInside m = HasRanked m.heap m.words

-- The patches before this one have their ranks.
use Rattle.std.proofs.Common.{◌≡◌, ℕ, ◌<◌, length}
use Rattle.tier_heap.specs.Entries.{rank_at}
use Rattle.tier_model.specs.Places.{is_marked}
use Rattle.tier_budget.specs.Heads.{bodies_in}
use Rattle.tier_budget.specs.Heaps.{missing_told}
use Rattle.tier_budget.proofs.missing.rank_missing.Given as goal

abbrev pub invariant-loop-patch : goal.invariant-loop-patch
invariant-loop-patch l = record {
  sized : length l.missing ≡ length l.fn.missing;
  ranked : (p : ℕ) → p < l.patch → rank_at l.missing p ≡ missing_told l.wishes l.base (bodies_in l.held) l.coming (is_marked l.aside p) p;
}

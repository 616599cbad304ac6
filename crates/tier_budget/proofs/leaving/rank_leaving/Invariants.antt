-- The patches before this one have their ranks.
use Rattle.std.proofs.Common.{◌≡◌, ℕ, ◌<◌, length}
use Rattle.tier_heap.specs.Entries.{rank_at}
use Rattle.tier_model.specs.Places.{is_marked}
use Rattle.tier_budget.specs.Heads.{bodies_in}
use Rattle.tier_budget.specs.Heaps.{leaving_told}
use Rattle.tier_budget.proofs.leaving.rank_leaving.Given as goal

abbrev pub invariant-loop-patch : goal.invariant-loop-patch
invariant-loop-patch l = record {
  sized : length l.leaving ≡ length l.fn.leaving;
  ranked : (p : ℕ) → p < l.patch → rank_at l.leaving p ≡ leaving_told (bodies_in l.held) l.pinned (is_marked l.passed p) l.wishes p;
}

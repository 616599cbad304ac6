-- The wishes of the patches before this one are written.
use Rattle.std.proofs.Common.{◌≡◌, ◌++◌, map, drop}
use Rattle.std.specs.List.{range_with_len}
use Rattle.tier_budget.proofs.wishes.copy_wishes.Given as goal

abbrev pub invariant-loop-patch : goal.invariant-loop-patch
invariant-loop-patch g l = l.kept ≡ map (g.W.Wishes.wish_of l.wishes) (range_with_len 0 l.patch) ++ drop l.patch l.fn.kept

use Rattle.std.proofs.Common.{◌≡◌, length}
use Rattle.tier_heap.proofs.tests.has_the_ends_of_an_ordered_set.Given as goal

abbrev pub invariant-loop-step : goal.invariant-loop-step
invariant-loop-step g l = length l.heap ≡ 6

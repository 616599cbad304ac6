use Rattle.std.proofs.Common.{◌≡◌, length}
use Rattle.tier_heap.proofs.tests.gives_many_ids_in_their_order.Given as goal

abbrev pub invariant-loop-id : goal.invariant-loop-id
invariant-loop-id g l = length l.heap ≡ 65536

abbrev pub invariant-loop-id-2 : goal.invariant-loop-id-2
invariant-loop-id-2 g l = length l.heap ≡ 65536

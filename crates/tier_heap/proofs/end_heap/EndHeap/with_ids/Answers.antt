use Rattle.std.proofs.Common.{refl, arith}
use Rattle.tier_heap.proofs.EmptyLemmas.{empty_heap}
use Rattle.tier_heap.proofs.end_heap.EndHeap.with_ids.Goals as goal

pub returns-clause-heap : goal.returns-clause-heap
returns-clause-heap c = empty_heap _ _ (omega arith) c.in_ok-order.ensures c.in_ok-places.ensures refl

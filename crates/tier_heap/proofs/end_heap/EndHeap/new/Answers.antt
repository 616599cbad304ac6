use Rattle.std.proofs.Common.{refl, arith}
use Rattle.tier_heap.proofs.EmptyLemmas.{empty_heap}
use Rattle.tier_heap.proofs.end_heap.EndHeap.new.Goals as goal

pub returns-clause-heap : goal.returns-clause-heap
returns-clause-heap c = empty_heap 0 _ (omega arith) c.new.ensures.items c.new-2.ensures.items refl

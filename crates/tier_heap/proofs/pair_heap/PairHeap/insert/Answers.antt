use Rattle.std.proofs.Common.{◌≡◌}
use Rattle.tier_heap.proofs.ChangeLemmas.{put_back}
use Rattle.tier_heap.proofs.pair_heap.PairHeap.insert.Goals as goal

pub insert-requires-clause-heap : goal.insert-requires-clause-heap
insert-requires-clause-heap c =
    let view : c.self.inside.ranks.items ≡ c.args.self.now = c.self.view_is in
    put_back _ _ _ _ _ _ c.deref.ensures.value (rw view c.requires.absent) c.self.invariant.greatest

pub insert-requires-2-clause-heap : goal.insert-requires-2-clause-heap
insert-requires-2-clause-heap c =
    let view : c.self.inside.ranks.items ≡ c.args.self.now = c.self.view_is in
    put_back _ _ _ _ _ _ c.deref-2.ensures.value (rw view c.requires.absent) c.self.invariant.least

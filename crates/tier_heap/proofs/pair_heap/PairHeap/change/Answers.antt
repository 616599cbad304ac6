use Rattle.std.proofs.Common.{◌≡◌}
use Rattle.tier_heap.proofs.ChangeLemmas.{put_back}
use Rattle.tier_heap.proofs.EndLemmas.{rank_from_some}
use Rattle.tier_heap.proofs.pair_heap.PairHeap.change.Goals as goal

pub change-requires-clause-heap : goal.change-requires-clause-heap
change-requires-clause-heap c =
    let view : c.self.inside.ranks.items ≡ c.args.self.now = c.self.view_is in
    let entry = rank_from_some _ c.requires in
    (entry.0, put_back _ _ _ _ _ _ c.deref.ensures.value (rw view entry.1) c.self.invariant.greatest)

pub change-requires-2-clause-heap : goal.change-requires-2-clause-heap
change-requires-2-clause-heap c =
    let view : c.self.inside.ranks.items ≡ c.args.self.now = c.self.view_is in
    let entry = rank_from_some _ c.requires in
    (entry.0, put_back _ _ _ _ _ _ c.deref-2.ensures.value (rw view entry.1) c.self.invariant.least)

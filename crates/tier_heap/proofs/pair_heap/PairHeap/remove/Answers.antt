use Rattle.std.proofs.Common.{◌≡◌, sym}
use Rattle.tier_heap.proofs.ChangeLemmas.{put_back}
use Rattle.tier_heap.proofs.pair_heap.PairHeap.remove.Goals as goal

pub remove-requires-clause-heap : goal.remove-requires-clause-heap
remove-requires-clause-heap c =
    let view : c.self.inside.ranks.items ≡ c.args.self.now = c.self.view_is in
    (c.in_ok-rank.rank, put_back _ _ _ _ _ _ c.deref.ensures.value (rw view (sym c.in_ok-rank.ensures)) c.self.invariant.greatest)

pub remove-requires-2-clause-heap : goal.remove-requires-2-clause-heap
remove-requires-2-clause-heap c =
    let view : c.self.inside.ranks.items ≡ c.args.self.now = c.self.view_is in
    (c.in_ok-rank.rank, put_back _ _ _ _ _ _ c.deref-2.ensures.value (rw view (sym c.in_ok-rank.ensures)) c.self.invariant.least)

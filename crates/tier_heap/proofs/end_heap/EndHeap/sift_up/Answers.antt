use Rattle.std.proofs.Common.{ℕ, ◌-◌, ◌/◌, ◌<◌, ◌∙◌, arith}
use Rattle.tier_heap.proofs.ExchangeLemmas.{lists_kept}
use Rattle.tier_heap.proofs.SiftLemmas.{is_step, loose_up}
use Rattle.tier_heap.proofs.end_heap.EndHeap.sift_up.Goals as goal

-- one step up
pub loop-at-preserved : goal.loop-at-preserved
loop-at-preserved c =
    let inv = c.loop-at.invariant in
    let exchange = c.exchange.ensures in
    let parent : ℕ = (c.loop-at.at - 1) / 2 in
    let parent_in : parent < c.loop-at.self.count = omega (arith, inv.counted) in
    record {
      lists = lists_kept _ _ _ _ _ inv.lists exchange inv.counted parent_in;
      counted = rw exchange.count parent_in;
      loose = loose_up _ _ _ _ _ (is_step _ _ _ _ inv.lists.index exchange inv.counted parent_in)
          (record { first = omega arith; second = omega arith; counted = inv.counted }) inv.loose;
      same_end = exchange.end ∙ inv.same_end;
    }

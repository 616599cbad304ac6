use Rattle.std.proofs.Common.{◌∙◌}
use Rattle.tier_heap.proofs.ExchangeLemmas.{lists_kept}
use Rattle.tier_heap.proofs.SiftLemmas.{is_step, loose_down}
use Rattle.tier_heap.proofs.end_heap.EndHeap.sift_down.Goals as goal

-- one step down
pub loop-child-preserved : goal.loop-child-preserved
loop-child-preserved c =
    let inv = c.loop-child.invariant in
    let exchange = c.exchange.ensures in
    let leads = c.in-Some.ensures.leads in
    let child_in = leads.is_first.parent.counted in
    record {
      lists = lists_kept _ _ _ _ _ inv.lists exchange inv.counted child_in;
      counted = rw exchange.count child_in;
      loose = loose_down _ _ _ _ _ (is_step _ _ _ _ inv.lists.index exchange inv.counted child_in) leads inv.loose;
      same_end = exchange.end ∙ inv.same_end;
    }

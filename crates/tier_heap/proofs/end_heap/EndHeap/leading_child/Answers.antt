use Rattle.std.proofs.Common.{sym, ◌∙◌}
use Rattle.tier_heap.proofs.OrderLemmas.{behind_trans}
use Rattle.tier_heap.proofs.end_heap.EndHeap.leading_child.Goals as goal

pub returns-else-is_ahead-clause-none : goal.returns-else-is_ahead-clause-none
returns-else-is_ahead-clause-none c =
    λ other parent. behind_trans _ _ _ _ _ (sym c.is_ahead.ensures ∙ c.if-is_ahead.false) (c.in_ok-child.ensures.first.first other parent)

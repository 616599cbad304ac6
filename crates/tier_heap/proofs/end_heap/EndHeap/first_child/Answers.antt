use Rattle.std.proofs.Common.{◌≡◌, ℕ, ◌*◌, ◌+◌, sym, ◌∙◌, subst, arith}
use Rattle.tier_heap.specs.EndHeap.{IsBehind}
use Rattle.tier_heap.proofs.OrderLemmas.{ahead_not_behind}
use Rattle.tier_heap.proofs.SiftLemmas.{is_first_child}
use Rattle.tier_heap.proofs.end_heap.EndHeap.first_child.Goals as goal
use Rattle.tier_heap.proofs.end_heap.EndHeap.first_child.Goals.{else-right-self-via-then-right-self+else-is_ahead, else-right-self-via-else-right-self}

pub returns-then-is_ahead-clause-first : goal.returns-then-is_ahead-clause-first
returns-then-is_ahead-clause-first c =
    let left : ℕ = 2 * c.args.at + 1 in
    is_first_child _ _ _ _ (record { first = omega arith; second = omega arith; counted = c.if-right-self.true })
    (λ other parent ne.
    let is_left : other ≡ left = omega (arith, parent.first, parent.second, ne) in
    subst (λ (k : ℕ). IsBehind c.args.ranks.now c.args.self.now k (left + 1)) (sym is_left) (ahead_not_behind _ _ _ _ (sym c.is_ahead.ensures ∙ c.if-is_ahead.true)))

pub returns-then-left-self-clause-first : goal.returns-then-left-self-clause-first
returns-then-left-self-clause-first c =
    let left : ℕ = 2 * c.args.at + 1 in
    is_first_child _ _ _ _ (record { first = omega arith; second = omega arith; counted = c.if-left-self.true })
    (λ other parent ne.
    let is_right : other ≡ left + 1 = omega (arith, parent.first, parent.second, ne) in
    elim c.else-right-self.branch [
      | else-right-self-via-then-right-self+else-is_ahead w ↦ subst (λ (k : ℕ). IsBehind c.args.ranks.now c.args.self.now k left) (sym is_right) (sym w.is_ahead.ensures ∙ w.if-is_ahead.false)
      | else-right-self-via-else-right-self w ↦ absurd (omega (arith, parent.counted, is_right, w.if-right-self.false))
    ])

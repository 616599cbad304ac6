-- The patch is listed.
use Rattle.std.proofs.Common.{◌≡◌, ◌<◌, false, length, sym, subst, ◌∙◌, List, Bool}
use Rattle.std.proofs.lemmas.List.{get_or_default}
use Rattle.std.specs.Prelude.{vec_capacity}
use Rattle.tier_model.specs.Places.{is_marked}
use Rattle.tier_budget.proofs.MarkSteps.{room_for, marks_more}
use Rattle.tier_budget.proofs.marks.Marks.mark.Goals as goal
use Rattle.tier_budget.proofs.marks.Marks.mark.Goals.{Else-index}

within : (c : Else-index) → c.args.patch < length c.self.inside.marks.items
within c = subst (λ (ms : List Bool). c.args.patch < length ms) (sym c.self.view_is) c.requires

unmarked : (c : Else-index) → is_marked c.self.inside.marks.items c.args.patch ≡ false
unmarked c = sym (get_or_default c.self.inside.marks.items c.args.patch c.index.result.now false (within c)) ∙ sym c.index.ensures ∙ c.if-index.false

pub push_reserved-requires : goal.push_reserved-requires
push_reserved-requires c =
    let before = (goal.at.push_reserved-requires c).Else-index in
    let room = room_for c.self.inside.marks.items c.self.inside.listed.items (vec_capacity c.self.inside.listed) c.args.patch c.self.invariant (within before) (unmarked before) in
    subst (λ n. n < vec_capacity c.self.inside.listed) (sym c.self.inside.listed.ok.0) room

pub invariant_of-self : goal.invariant_of-self
invariant_of-self c =
    let before = (goal.at.invariant_of-self c).Else-index in
    rw (c.push_reserved.ensures.items, c.push_reserved.ensures.capacity)
    (marks_more c.self.inside.marks.items c.self.inside.listed.items (vec_capacity c.self.inside.listed) c.args.patch c.self.invariant (within before) (unmarked before))

-- Each four words add the next half-space, or end it.
use Rattle.std.proofs.Common.{sym, ◌∙◌}
use Rattle.std.specs.Prelude.{string_bytes}
use Rattle.viewer_program.proofs.SpeltLemmas.{no_next, next_none, next_over, next_some}
use Rattle.viewer_program.proofs.commands.spelt.add_half_spaces.Goals as goal

pub returns-in_err-plane : goal.returns-in_err-plane
returns-in_err-plane c =
    let none = rw (c.as_str.ensures.value, c.as_str-in-len4-up.ensures.value, c.as_str-in-len4-up-2.ensures.value, c.as_str-in-len4-up-3.ensures.value) at c.in_err-plane.ensures in
    c.from_residual.ensures ∙ sym (next_none string_bytes c.loop-rest.planes c.loop-rest.rest.now _ _ _ _ c.in-len4-up.len_at_least c.a-item.is c.b-item.is c.c-item.is c.d-item.is (sym none)) ∙ c.loop-rest.invariant

pub returns-then-not-add : goal.returns-then-not-add
returns-then-not-add c =
    let some = rw (c.as_str.ensures.value, c.as_str-in-len4-up.ensures.value, c.as_str-in-len4-up-2.ensures.value, c.as_str-in-len4-up-3.ensures.value) at c.in_ok-plane.ensures in
    sym (next_over string_bytes c.loop-rest.planes c.loop-rest.rest.now _ _ _ _ c.in-len4-up.len_at_least c.a-item.is c.b-item.is c.c-item.is c.d-item.is c.in_ok-plane.plane (sym some) (sym c.add.ensures.room ∙ c.if-not-add.true)) ∙ c.loop-rest.invariant

pub loop-rest-preserved : goal.loop-rest-preserved
loop-rest-preserved c =
    let some = rw (c.as_str.ensures.value, c.as_str-in-len4-up.ensures.value, c.as_str-in-len4-up-2.ensures.value, c.as_str-in-len4-up-3.ensures.value) at c.in_ok-plane.ensures in
    rw c.add.ensures.planes (sym (next_some string_bytes c.loop-rest.planes c.loop-rest.rest.now _ _ _ _ c.in-len4-up.len_at_least c.a-item.is c.b-item.is c.c-item.is c.d-item.is c.in_ok-plane.plane (sym some) (sym c.add.ensures.room ∙ c.if-not-add.false)) ∙ c.loop-rest.invariant)

pub returns : goal.returns
returns c = c.then_some.ensures ∙ no_next string_bytes c.loop-rest.planes c.loop-rest.rest.now c.is_empty.result c.in_default.len_below c.is_empty.ensures ∙ c.loop-rest.invariant

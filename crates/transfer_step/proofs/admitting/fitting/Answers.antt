-- What fits is what fits beside the load.
use Rattle.std.proofs.Common.{◌≡◌, ap, ◌∙◌, sym, arith}
use Rattle.std.specs.Prelude.{slice_index}
use Rattle.tier_model.specs.Tiers.{size}
use Rattle.tier_model.specs.Turns.{fitting}
use Rattle.transfer_step.proofs.RuleSteps.{fitting_there, fitting_full, fitting_none}
use Rattle.transfer_step.proofs.admitting.fitting.Goals as goal

pub returns-in-Some : goal.returns-in-Some
returns-in-Some c =
    let s = c.args.tier.now.state in
    let p = c.in-Some.patch in
    let is : c.body_size.result ≡ size s p = c.body_size.ensures ∙ ap (λ sizes. slice_index sizes p) c.requires.index in
    fitting_there s p c.body_size.result is (omega arith) (omega arith) ∙ ap (fitting s) (sym c.in-Some.is)

pub returns-in_default : goal.returns-in_default
returns-in_default c =
    let s = c.args.tier.now.state in
    let p = c.in-Some.patch in
    let is : c.body_size.result ≡ size s p = c.body_size.ensures ∙ ap (λ sizes. slice_index sizes p) c.requires.index in
    fitting_full s p c.body_size.result is (omega arith) (omega arith) ∙ ap (fitting s) (sym c.in-Some.is)

pub returns-in_default-2 : goal.returns-in_default-2
returns-in_default-2 c = fitting_none c.args.tier.now.state ∙ ap (fitting c.args.tier.now.state) (sym c.in_default.is)

use Rattle.std.proofs.Common.{rules, refl}
use Rattle.view_outside.specs.Messages.{IsMessage, AsksName}
use Rattle.patch_link.specs.AskingLaws.{above_next}
use Rattle.patch_link.proofs.questions.ask_name.Goals as goal

pub returns-in_err-size-clause-above : goal.returns-in_err-size-clause-above
returns-in_err-size-clause-above g c =
    let question = AsksName c.args.number c.args.name.now in
    let right : IsMessage question = search rules in
    above_next (g.L.Link.last c.ask.new.link) question c.args.number right c.ask.ensures.last refl

pub returns-in-Some-clause-above : goal.returns-in-Some-clause-above
returns-in-Some-clause-above g c =
    let question = AsksName c.args.number c.args.name.now in
    let right : IsMessage question = search rules in
    above_next (g.L.Link.last c.ask.new.link) question c.args.number right c.ask.ensures.last refl

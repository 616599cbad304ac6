use Rattle.std.proofs.Common.{rules, refl}
use Rattle.view_outside.specs.Messages.{IsMessage, AsksBytes}
use Rattle.patch_link.specs.AskingLaws.{above_next}
use Rattle.patch_link.proofs.questions.ask_bytes.Goals as goal

pub returns-in_err-count-clause-above : goal.returns-in_err-count-clause-above
returns-in_err-count-clause-above g c =
    let question = AsksBytes c.args.number c.args.file c.args.offset c.args.size in
    let right : IsMessage question = search rules in
    above_next (g.L.Link.last c.ask.new.link) question c.args.number right c.ask.ensures.last refl

pub returns-in-Some-clause-above : goal.returns-in-Some-clause-above
returns-in-Some-clause-above g c =
    let question = AsksBytes c.args.number c.args.file c.args.offset c.args.size in
    let right : IsMessage question = search rules in
    above_next (g.L.Link.last c.ask.new.link) question c.args.number right c.ask.ensures.last refl

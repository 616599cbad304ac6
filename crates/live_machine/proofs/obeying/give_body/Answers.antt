use Rattle.std.proofs.Common.{ap, ◌∙◌}
use Rattle.std.specs.Arc.{arc_value}
use Rattle.live_model.specs.LiveTexts.{given_text}
use Rattle.view_machine.specs.Machines.{world_of, run_state}
use Rattle.view_machine.specs.TurnClauses.{if_ok_then}
use Rattle.live_machine.specs.Obeying.{body_line}
use Rattle.live_machine.proofs.obeying.give_body.Goals as goal

pub returns : goal.returns
returns g c =
    let m = c.args.machine.now in
    if_ok_then c.body_text.result
    (λ x is. body_line (world_of m) (run_state m) c.args.patch (arc_value c.in-Some.body.now) x.items c.in-Some.ensures.held (is ∙ ap (given_text c.args.patch) c.deref.ensures))
    c.body_text.ensures

use Rattle.frame_writer.proofs.LineLemmas.{on_err}
use Rattle.run_model.specs.Lines.{DidStep}
use Rattle.view_machine.specs.OwnStops.{BeforeText}
use Rattle.view_machine.proofs.machines.Machine.step.Goals as goal

pub returns-in_err-add_step-clause-none : goal.returns-in_err-add_step-clause-none
returns-in_err-add_step-clause-none g c =
    on_err c.from_residual-in_err-add_step.result (BeforeText (DidStep c.args.session c.in_ok-did.did) c.in_ok-did.ensures.does)

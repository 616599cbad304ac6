use Rattle.frame_writer.proofs.LineLemmas.{on_err}
use Rattle.run_model.specs.Lines.{DidClose}
use Rattle.view_machine.specs.OwnStops.{BeforeText}
use Rattle.view_machine.proofs.machines.Machine.close.Goals as goal

pub returns-in_err-add_closed-clause-none : goal.returns-in_err-add_closed-clause-none
returns-in_err-add_closed-clause-none g c =
    on_err c.from_residual.result (BeforeText (DidClose c.args.session c.close_session-unlocks.result) c.close_session-unlocks.ensures.does)

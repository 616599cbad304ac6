use Rattle.frame_writer.proofs.LineLemmas.{on_err}
use Rattle.run_model.specs.Lines.{DidFree}
use Rattle.view_machine.specs.OwnStops.{BeforeText}
use Rattle.view_machine.proofs.machines.Machine.free.Goals as goal

pub returns-in_err-add_freed-clause-none : goal.returns-in_err-add_freed-clause-none
returns-in_err-add_freed-clause-none g c =
    on_err c.from_residual.result (BeforeText (DidFree c.args.session c.free_session-unlocks.result) c.free_session-unlocks.ensures.does)

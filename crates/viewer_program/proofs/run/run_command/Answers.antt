use Rattle.viewer_program.proofs.EndingLemmas.{stop-no_write_fault, stop-not_usage}
use Rattle.viewer_program.proofs.run.run_command.Goals as goal

pub returns-clause-write_fault : goal.returns-clause-write_fault
returns-clause-write_fault g c = stop-no_write_fault _ c.args.command.now c.in-Err.status c.in-Err.ensures.stop

pub returns-clause-command : goal.returns-clause-command
returns-clause-command g c = stop-not_usage c.args.command.now c.in-Err.status c.in-Err.ensures.stop

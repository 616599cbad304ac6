use Rattle.live_model.specs.LiveLaws.{lines_run, lines_reach}
use Rattle.live_model.proofs.laws.driving_is_a_run.Goals as goal

pub returns-clause-run : goal.returns-clause-run
returns-clause-run c = lines_run

pub returns-clause-events : goal.returns-clause-events
returns-clause-events c = lines_reach

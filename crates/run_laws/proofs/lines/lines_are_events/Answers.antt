use Rattle.run_laws.specs.LineLaws.{does_reaches, runs_reach}
use Rattle.run_laws.proofs.lines.lines_are_events.Goals as goal

pub returns-clause-line : goal.returns-clause-line
returns-clause-line c = does_reaches

pub returns-clause-run : goal.returns-clause-run
returns-clause-run c = runs_reach

use Rattle.run_laws.specs.RunLaws.{does_keeps_safe, runs_are_safe}
use Rattle.run_laws.proofs.lines.runs_stay_safe.Goals as goal

pub returns-clause-line : goal.returns-clause-line
returns-clause-line c = does_keeps_safe

pub returns-clause-run : goal.returns-clause-run
returns-clause-run c = runs_are_safe

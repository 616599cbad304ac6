use Rattle.live_model.specs.LiveLaws.{line_keeps_safe, lines_are_safe}
use Rattle.live_model.proofs.laws.driving_stays_safe.Goals as goal

pub returns-clause-line : goal.returns-clause-line
returns-clause-line c = line_keeps_safe

pub returns-clause-run : goal.returns-clause-run
returns-clause-run c = lines_are_safe

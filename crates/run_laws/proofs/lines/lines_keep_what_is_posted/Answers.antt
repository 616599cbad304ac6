use Rattle.run_laws.specs.KeptLaws.{event_takes, opening_kept, does_kept}
use Rattle.run_laws.proofs.lines.lines_keep_what_is_posted.Goals as goal

pub returns-clause-first : goal.returns-clause-first
returns-clause-first c = opening_kept

pub returns-clause-line : goal.returns-clause-line
returns-clause-line c = does_kept

pub returns-clause-event : goal.returns-clause-event
returns-clause-event c = event_takes

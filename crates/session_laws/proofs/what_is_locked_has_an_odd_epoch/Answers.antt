use Rattle.session_laws.specs.NextStates.{next_stepped, is_step_by, next_freed, next_viewed, next_printed}
use Rattle.session_laws.proofs.what_is_locked_has_an_odd_epoch.Goals as goal

pub returns-clause-stepped : goal.returns-clause-stepped
returns-clause-stepped c = next_stepped

pub returns-clause-by_epochs : goal.returns-clause-by_epochs
returns-clause-by_epochs c = is_step_by

pub returns-clause-freed : goal.returns-clause-freed
returns-clause-freed c = next_freed

pub returns-clause-viewed : goal.returns-clause-viewed
returns-clause-viewed c = next_viewed

pub returns-clause-printed : goal.returns-clause-printed
returns-clause-printed c = next_printed

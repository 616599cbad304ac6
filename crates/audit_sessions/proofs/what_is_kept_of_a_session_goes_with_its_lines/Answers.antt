use Rattle.audit_sessions.specs.Freed.{stands_freed}
use Rattle.audit_sessions.specs.Served.{stands_opened, stands_viewed, stands_printed}
use Rattle.audit_sessions.proofs.what_is_kept_of_a_session_goes_with_its_lines.Goals as goal

pub returns-clause-opened : goal.returns-clause-opened
returns-clause-opened c = stands_opened

pub returns-clause-viewed : goal.returns-clause-viewed
returns-clause-viewed c = stands_viewed

pub returns-clause-printed : goal.returns-clause-printed
returns-clause-printed c = stands_printed

pub returns-clause-freed : goal.returns-clause-freed
returns-clause-freed c = stands_freed

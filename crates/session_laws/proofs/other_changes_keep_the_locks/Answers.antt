use Rattle.session_laws.specs.StateLaws.{opened_is, opened_uses, viewed_locks, printed_locks, ended_locks}
use Rattle.session_laws.proofs.other_changes_keep_the_locks.Goals as goal

pub returns-clause-opened : goal.returns-clause-opened
returns-clause-opened c = opened_is

pub returns-clause-unlocked : goal.returns-clause-unlocked
returns-clause-unlocked c = opened_uses

pub returns-clause-viewed : goal.returns-clause-viewed
returns-clause-viewed c = viewed_locks

pub returns-clause-printed : goal.returns-clause-printed
returns-clause-printed c = printed_locks

pub returns-clause-ended : goal.returns-clause-ended
returns-clause-ended c = ended_locks

use Rattle.audit_sessions.specs.Freed.{can_free, freed_locks}
use Rattle.audit_sessions.proofs.a_session_gives_back_its_locks.Goals as goal

pub returns-clause-can : goal.returns-clause-can
returns-clause-can c = can_free

pub returns-clause-locks : goal.returns-clause-locks
returns-clause-locks c = freed_locks

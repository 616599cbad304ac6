use Rattle.session_laws.specs.Refinings.{owed_is_locked, release_locks}
use Rattle.session_laws.specs.AskedPatches.{answer_locks}
use Rattle.session_laws.proofs.each_answer_changes_one_lock.Goals as goal

pub returns-clause-tried : goal.returns-clause-tried
returns-clause-tried c = answer_locks

pub returns-clause-held : goal.returns-clause-held
returns-clause-held c = owed_is_locked

pub returns-clause-given : goal.returns-clause-given
returns-clause-given c = release_locks

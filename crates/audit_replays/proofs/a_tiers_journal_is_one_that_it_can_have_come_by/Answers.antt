use Rattle.audit_replays.specs.ReplayLaws.{journal_replays, replays_read}
use Rattle.audit_replays.proofs.a_tiers_journal_is_one_that_it_can_have_come_by.Goals as goal

pub returns-clause-came : goal.returns-clause-came
returns-clause-came c = journal_replays

pub returns-clause-read : goal.returns-clause-read
returns-clause-read c = replays_read

use Rattle.audit_settling.specs.SettlingReads.{turn_reads, tiers_read}
use Rattle.audit_settling.proofs.a_settling_is_read_by_its_outcomes.Goals as goal

pub returns-clause-turn : goal.returns-clause-turn
returns-clause-turn c = turn_reads

pub returns-clause-tiers : goal.returns-clause-tiers
returns-clause-tiers c = tiers_read

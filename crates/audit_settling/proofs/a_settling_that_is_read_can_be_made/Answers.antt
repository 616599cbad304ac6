use Rattle.audit_settling.specs.SettlingsRead.{tiers_are}
use Rattle.audit_settling.proofs.a_settling_that_is_read_can_be_made.Goals as goal

pub returns : goal.returns
returns c = tiers_are

use Rattle.audit_settling.specs.SettlingsBack.{settling_back}
use Rattle.audit_settling.proofs.a_settling_that_can_be_made_is_read.Goals as goal

pub returns : goal.returns
returns c = settling_back

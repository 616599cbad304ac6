use Rattle.audit_settling.specs.TurnsRead.{turn_is}
use Rattle.audit_settling.proofs.a_turn_that_is_read_can_be_made.Goals as goal

pub returns : goal.returns
returns c = turn_is

use Rattle.audit_spelling.specs.FaultLaws.{fault_spells}
use Rattle.audit_spelling.proofs.a_fault_has_one_spelling.Goals as goal

pub returns : goal.returns
returns c = fault_spells

use Rattle.audit_lines.specs.TextLaws.{met_is, met_fails}
use Rattle.audit_lines.proofs.laws.a_due_text_is_met_or_its_first_fault_is_told.Goals as goal

pub returns-clause-met : goal.returns-clause-met
returns-clause-met c = met_is

pub returns-clause-failed : goal.returns-clause-failed
returns-clause-failed c = λ text before fault failed. met_fails text before.rest before.line fault failed

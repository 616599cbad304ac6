use Rattle.audit_lines.specs.ReaderLaws.{nothing_reads, due_reads}
use Rattle.audit_lines.proofs.laws.a_due_text_is_read.Goals as goal

pub returns-clause-none : goal.returns-clause-none
returns-clause-none g c = nothing_reads

pub returns-clause-due : goal.returns-clause-due
returns-clause-due g c = due_reads

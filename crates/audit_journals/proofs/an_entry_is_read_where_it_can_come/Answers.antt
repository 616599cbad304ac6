use Rattle.audit_journals.specs.EntryLaws.{entry_reads}
use Rattle.audit_journals.proofs.an_entry_is_read_where_it_can_come.Goals as goal

pub returns : goal.returns
returns c = entry_reads

use Rattle.audit_journals.specs.JournalLaws.{journal_reads}
use Rattle.audit_journals.proofs.a_journal_is_read_where_it_can_be_replayed.Goals as goal

pub returns : goal.returns
returns c = journal_reads

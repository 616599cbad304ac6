use Rattle.audit_lines.specs.SequenceLaws.{whole_reads}
use Rattle.audit_lines.proofs.laws.a_whole_text_is_read.Goals as goal

pub returns : goal.returns
returns g c = λ s. whole_reads (g.X.ReadFrom.reader s) (g.X.ReadFrom.texts s) (g.X.ReadFrom.reads s)

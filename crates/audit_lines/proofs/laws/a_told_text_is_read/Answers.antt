use Rattle.audit_lines.specs.ReaderLaws.{told_reads}
use Rattle.audit_lines.proofs.laws.a_told_text_is_read.Goals as goal

pub returns : goal.returns
returns g c =
    let line = g.X.JudgedLine in
    told_reads line.lines line.judge line.written line.text_of line.allowed line.judges line.stands

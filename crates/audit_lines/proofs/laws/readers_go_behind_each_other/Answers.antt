use Rattle.audit_lines.specs.SequenceLaws.{then_reads}
use Rattle.audit_lines.proofs.laws.readers_go_behind_each_other.Goals as goal

pub returns : goal.returns
returns g c = λ s. let first = g.X.ReadFrom in let next = g.Y.ReadFrom in then_reads (first.reader s) next.reader
    (first.texts s) next.texts (g.X.ReadFrom.reads s) (λ line x text is. g.Y.ReadFrom.reads x)

use Rattle.audit_lines.specs.SequenceLaws.{times_reads}
use Rattle.audit_lines.proofs.laws.a_reader_goes_on.Goals as goal

pub returns : goal.returns
returns g c = λ times s. times_reads g.S.ReadFrom.reader g.S.ReadFrom.texts (λ t. Unit {0})
    (λ t good. g.S.ReadFrom.reads t) (λ s t line text good is. tt) times s tt

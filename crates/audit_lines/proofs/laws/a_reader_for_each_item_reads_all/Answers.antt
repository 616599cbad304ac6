use Rattle.audit_lines.specs.SequenceLaws.{each_reads}
use Rattle.audit_lines.proofs.laws.a_reader_for_each_item_reads_all.Goals as goal

pub returns : goal.returns
returns g c = λ items s. each_reads (λ a t. g.S.ReadFrom.reader (a, t)) (λ a t. g.S.ReadFrom.texts (a, t)) (λ t. Unit
    {0}) (λ a t good. g.S.ReadFrom.reads (a, t)) (λ a s t line text good is. tt) items s tt

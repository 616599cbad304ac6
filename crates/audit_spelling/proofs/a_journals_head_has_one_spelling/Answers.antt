use Rattle.audit_spelling.specs.TryLaws.{head_spells}
use Rattle.audit_spelling.proofs.a_journals_head_has_one_spelling.Goals as goal

pub returns : goal.returns
returns c = head_spells

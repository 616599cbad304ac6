use Rattle.audit_spelling.specs.TurnLaws.{entry_spells}
use Rattle.audit_spelling.proofs.an_entry_has_one_spelling.Goals as goal

pub returns : goal.returns
returns c = entry_spells

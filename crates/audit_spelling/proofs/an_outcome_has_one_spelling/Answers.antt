use Rattle.audit_spelling.specs.TurnLaws.{outcome_spells}
use Rattle.audit_spelling.proofs.an_outcome_has_one_spelling.Goals as goal

pub returns : goal.returns
returns c = outcome_spells

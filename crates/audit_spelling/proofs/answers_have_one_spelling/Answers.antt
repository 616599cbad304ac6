use Rattle.audit_spelling.specs.TryLaws.{try_spells, tries_spell}
use Rattle.audit_spelling.proofs.answers_have_one_spelling.Goals as goal

pub returns-clause-one : goal.returns-clause-one
returns-clause-one c = try_spells

pub returns-clause-all : goal.returns-clause-all
returns-clause-all c = tries_spell

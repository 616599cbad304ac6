use Rattle.number_words.specs.NumberLaws.{number_in-prints, number_in-spells, signed_in-prints, signed_in-spells}
use Rattle.number_words.proofs.a_number_has_one_spelling.Goals as goal

pub returns-clause-number : goal.returns-clause-number
returns-clause-number c = λ most n word small. (number_in-prints most n word, λ h. number_in-spells most n word small h.0 h.1)

pub returns-clause-signed : goal.returns-clause-signed
returns-clause-signed c = λ most z word small. (signed_in-prints most z word, λ h. signed_in-spells most z word small h.0 h.1)

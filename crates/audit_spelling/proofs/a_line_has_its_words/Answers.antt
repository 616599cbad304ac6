use Rattle.audit_spelling.specs.WordLaws.{words_of_written, stands_first, line_with_is}
use Rattle.audit_spelling.proofs.a_line_has_its_words.Goals as goal

pub returns-clause-words : goal.returns-clause-words
returns-clause-words c = words_of_written

pub returns-clause-one : goal.returns-clause-one
returns-clause-one c = stands_first

pub returns-clause-printed : goal.returns-clause-printed
returns-clause-printed c = line_with_is

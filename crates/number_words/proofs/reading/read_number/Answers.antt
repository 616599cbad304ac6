use Rattle.std.proofs.Common.{sym, arith}
use Rattle.number_words.proofs.ReadingLemmas.{number_in-no_text}
use Rattle.number_words.proofs.reading.read_number.Goals as goal

pub returns-in-Err-clause-value : goal.returns-in-Err-clause-value
returns-in-Err-clause-value c = sym (number_in-no_text c.args.most c.args.word.now (omega arith) c.in-Err.ensures.cases.0)

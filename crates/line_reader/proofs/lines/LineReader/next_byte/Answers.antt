use Rattle.line_reader.proofs.LineLemmas.{takes_byte}
use Rattle.line_reader.proofs.lines.LineReader.next_byte.Goals as goal

pub returns-clause-takes : goal.returns-clause-takes
returns-clause-takes g c = takes_byte _ _ _ _ _ _ c.in_ok-refill.ensures.fills c.take_byte.ensures.takes

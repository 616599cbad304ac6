use Rattle.std.proofs.lemmas.Result.{on_ok_weaker}
use Rattle.text_model.specs.Lines.{decimals}
use Rattle.frame_writer.specs.Appending.{Adds-line}
use Rattle.frame_writer.proofs.frames.write_numbers.Goals as goal

pub returns-clause-ok : goal.returns-clause-ok
returns-clause-ok c = on_ok_weaker c.end_line.result (Adds-line (decimals c.args.numbers.now) c.in_ok-begin_line.ensures.ok c.in_ok-write_number_words.ensures.ok) c.end_line.ensures.ok

use Rattle.std.proofs.Common.{map}
use Rattle.std.proofs.lemmas.Result.{on_ok_weaker}
use Rattle.text_model.specs.FrameText.{try_text, tries_line}
use Rattle.frame_writer.specs.Appending.{Adds-line}
use Rattle.frame_writer.proofs.frames.write_tries.Goals as goal

pub returns-clause-ok : goal.returns-clause-ok
unfolding tries_line
returns-clause-ok c = on_ok_weaker c.end_line.result (Adds-line (map try_text c.args.tries.now) c.in_ok-begin_line.ensures.ok c.in_ok-write_try_words.ensures.ok) c.end_line.ensures.ok

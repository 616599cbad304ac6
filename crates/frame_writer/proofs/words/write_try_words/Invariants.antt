use Rattle.std.proofs.Common.{map, take}
use Rattle.text_model.specs.FrameText.{try_text}
use Rattle.text_model.specs.Lines.{Adds, spaced}
use Rattle.frame_writer.proofs.words.write_try_words.Given as goal

abbrev pub invariant-loop-answer : goal.invariant-loop-answer
invariant-loop-answer l = Adds l.fn.out.items l.out.items (spaced (map try_text (take l.answer-index l.tries)))

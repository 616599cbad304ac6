use Rattle.std.proofs.Common.{take}
use Rattle.text_model.specs.Lines.{Adds, spaced, decimals}
use Rattle.frame_writer.proofs.words.write_number_words.Given as goal

abbrev pub invariant-loop-number : goal.invariant-loop-number
invariant-loop-number l = Adds l.fn.out.items l.out.items (spaced (decimals (take l.number-index l.numbers)))

use Rattle.std.proofs.Common.{map, take}
use Rattle.text_model.specs.Lines.{Adds, spaced}
use Rattle.frame_writer.specs.Parts.{part_text}
use Rattle.frame_writer.proofs.lines.write_parts.Given as goal

abbrev pub invariant-loop-part : goal.invariant-loop-part
invariant-loop-part l = Adds l.fn.out.items l.out.items (spaced (map part_text (take l.part-index l.parts)))

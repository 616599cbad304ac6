-- The text of a part of a line.
use Rattle.std.specs.Prelude.{ℕ, List}
use Rattle.std.specs.Fmt.{decimal, signed_decimal}
use Rattle.text_model.specs.FrameText.{try_text}
use Rattle.frame_writer.specs.declared.parts.Part.{Part}
use Rattle.frame_writer.specs.declared.parts.Part.TheVariants.{Word, Number, Signed, Answer}

-- a word as it stands, a number in decimal, a try as patch and epoch
abbrev pub part_text : Part → List ℕ
part_text (Word word) = word.now
part_text (Number number) = decimal number
part_text (Signed number) = signed_decimal number
part_text (Answer answer) = try_text answer

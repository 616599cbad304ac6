use Rattle.std.proofs.Common.{length, ap, arith, length-drop}
use Rattle.frame_writer.proofs.PointTextLemmas.{length-decimal_short, length-digits_before}
use Rattle.frame_writer.proofs.point_texts.PointText.put_number.Goals as goal

pub write_digits-self-inside-requires : goal.write_digits-self-inside-requires
write_digits-self-inside-requires c =
    let short = length-decimal_short c.from-digits.result (omega arith) in
    let room = ap length c.self.view_is in
    let rest = length-drop c.self.inside.start c.self.inside.bytes in
    (omega (arith, short, room, rest, c.requires), omega (arith, c.self.invariant))

pub put-requires : goal.put-requires
put-requires c =
    let more = length-digits_before c.from-digits.result _ _ (omega arith) c.write_digits-self-inside.ensures.written in
    omega (arith, more, ap length c.self.view_is, c.requires)

pub returns-then-number-lt0-clause-length : goal.returns-then-number-lt0-clause-length
returns-then-number-lt0-clause-length c =
    let more = length-digits_before c.from-digits.result _ _ (omega arith) c.write_digits-self-inside.ensures.written in
    omega (arith, more, ap length c.self.view_is, ap length c.put.ensures)

pub returns-else-number-lt0-clause-length : goal.returns-else-number-lt0-clause-length
returns-else-number-lt0-clause-length c =
    let more = length-digits_before c.from-digits.result _ _ (omega arith) c.write_digits-self-inside.ensures.written in
    omega (arith, more, ap length c.self.view_is)

use Rattle.std.proofs.Common.{sym, ap, ◌∙◌}
use Rattle.std.proofs.lemmas.Bool.{iff_false}
use Rattle.number_words.proofs.ReadingLemmas.{bounded, number_in-refused, number_in-parsed}
use Rattle.number_words.proofs.reading.read_text.Goals as goal

pub returns-then-has_plus_or_leading_zero-clause-value : goal.returns-then-has_plus_or_leading_zero-clause-value
returns-then-has_plus_or_leading_zero-clause-value c =
    sym (number_in-refused c.args.most c.args.word.now c.ranges.most.fits (rw c.as_bytes.ensures.value at (c.has_plus_or_leading_zero.ensures.0 c.if-has_plus_or_leading_zero.true)))

pub returns-in_err-number-clause-value : goal.returns-in_err-number-clause-value
returns-in_err-number-clause-value c =
    let plain = rw c.as_bytes.ensures.value at (iff_false c.has_plus_or_leading_zero.ensures c.if-has_plus_or_leading_zero.false) in
    c.from_residual.ensures ∙ ap (bounded c.args.most) c.in_err-number.ensures.value
    ∙ sym (number_in-parsed c.args.most c.args.word.now c.parse.result c.ranges.most.fits plain c.parse.ensures.value.0)

pub returns-clause-value : goal.returns-clause-value
returns-clause-value c =
    let plain = rw c.as_bytes.ensures.value at (iff_false c.has_plus_or_leading_zero.ensures c.if-has_plus_or_leading_zero.false) in
    c.then_some.ensures ∙ ap (bounded c.args.most) c.in_ok-number.ensures.value
    ∙ sym (number_in-parsed c.args.most c.args.word.now c.parse.result c.ranges.most.fits plain c.parse.ensures.value.0)

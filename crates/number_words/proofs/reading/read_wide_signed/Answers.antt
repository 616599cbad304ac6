use Rattle.std.proofs.Common.{◌≡◌, ℕ, [], ◌∷◌, ◌^◌, ◌<◌, ◌-ℤ◌, Some, None, zero, suc, w64, to_z, of_z, pos, negsuc, sym, ap, ◌∙◌, arith}
use Rattle.std.proofs.lemmas.Int.{ints}
use Rattle.std.proofs.lemmas.Bool.Decides.{Decides-eqb}
use Rattle.std.proofs.lemmas.Slice.Eq.{strip_prefix_is}
use Rattle.number_words.proofs.SignLemmas.{below_zero, signed_in-minus, signed_in-plain}
use Rattle.number_words.proofs.reading.read_wide_signed.Goals as goal

-- what the code computes is the number below 0
negated : (n : ℕ) → 0 < n → n < 2 ^ 63 → Some (to_z w64 (of_z w64 (pos 0 -ℤ to_z w64 n))) ≡ below_zero n
negated zero some small = absurd (omega arith)
negated (suc n) some small = let e : to_z w64 (of_z w64 (pos 0 -ℤ to_z w64 (suc n))) ≡ negsuc n = omega (arith, ints) in ap Some e

pub returns-in_err-number-in-Some-clause-value : goal.returns-in_err-number-in-Some-clause-value
returns-in_err-number-in-Some-clause-value c =
    let strips = rw c.in-Some.is at (strip_prefix_is Decides-eqb c.args.word.now (45 ∷ []) c.strip_prefix.result c.strip_prefix.ensures.cases) in
    c.from_residual.ensures ∙ signed_in-minus c.args.most c.args.word.now c.in-Some.digits.now None (omega arith) strips c.in_err-number-in-Some.ensures.value

pub returns-in_err-read_number-in-None-clause-value : goal.returns-in_err-read_number-in-None-clause-value
returns-in_err-read_number-in-None-clause-value c =
    let plain = rw c.in-None.is at (strip_prefix_is Decides-eqb c.args.word.now (45 ∷ []) c.strip_prefix.result c.strip_prefix.ensures.cases) in
    c.from_residual-in_err-read_number-in-None.ensures ∙ signed_in-plain c.args.most c.args.word.now None (omega arith) plain c.in_err-read_number-in-None.ensures.value

pub returns-in-0-clause-value : goal.returns-in-0-clause-value
returns-in-0-clause-value c =
    let strips = rw c.in-Some.is at (strip_prefix_is Decides-eqb c.args.word.now (45 ∷ []) c.strip_prefix.result c.strip_prefix.ensures.cases) in
    signed_in-minus c.args.most c.args.word.now c.in-Some.digits.now (Some 0) (omega arith) strips (ap Some (sym c.in-0.is) ∙ c.in_ok-number-in-Some.ensures.value)

pub returns-in_default-clause-value : goal.returns-in_default-clause-value
returns-in_default-clause-value c =
    let strips = rw c.in-Some.is at (strip_prefix_is Decides-eqb c.args.word.now (45 ∷ []) c.strip_prefix.result c.strip_prefix.ensures.cases) in
    let n = c.in_ok-number-in-Some.number in
    negated n (omega arith) (omega (arith, c.in_ok-number-in-Some.ensures.bound))
    ∙ signed_in-minus c.args.most c.args.word.now c.in-Some.digits.now (Some n) (omega arith) strips c.in_ok-number-in-Some.ensures.value

pub returns-in_ok-read_number-in-None-clause-value : goal.returns-in_ok-read_number-in-None-clause-value
returns-in_ok-read_number-in-None-clause-value c =
    let plain = rw c.in-None.is at (strip_prefix_is Decides-eqb c.args.word.now (45 ∷ []) c.strip_prefix.result c.strip_prefix.ensures.cases) in
    let n = c.in_ok-read_number-in-None.field-0 in
    let same : to_z w64 n ≡ pos n = omega (arith, ints, c.in_ok-read_number-in-None.ensures.bound) in
    ap Some same ∙ signed_in-plain c.args.most c.args.word.now (Some n) (omega arith) plain c.in_ok-read_number-in-None.ensures.value

-- What a word spells with a sign, by what it spells without one.
use Rattle.std.proofs.Common.{◌≡◌, ◌≢◌, ℕ, zero, suc, ◌^◌, ◌<◌, List, ◌∷◌, get_or, drop, ℤ, pos, negsuc, Option, Some, None, option_map, option_and_then, refl, sym, ap, ◌∙◌, arith}
use Rattle.std.specs.Fmt.{decimal}
use Rattle.number_words.specs.Numbers.{number_in, signed_in}
use Rattle.number_words.specs.NumberLaws.{unsigned-decimal, number_in-prints, number_in-spells, signed_in-prints, signed_in-spells}
use Rattle.number_words.proofs.ReadingLemmas.{none_of}

-- the number below 0; there is no other 0
abbrev pub below_zero : ℕ → Option ℤ
below_zero zero = None
below_zero (suc n) = Some (negsuc n)

-- what is spelt behind a sign
record IsBelow (most : ℕ) (digits : List ℕ) (z : ℤ) : Type 0 where
  n : ℕ
  value : z ≡ negsuc n
  spelt : number_in most digits ≡ Some (suc n)

below_from_prints : (most : ℕ) (digits : List ℕ) (z : ℤ) → most < 10 ^ 64 → signed_in most (45 ∷ digits) ≡ Some z → IsBelow most digits z
below_from_prints most digits (pos n) small e =
    let h = signed_in-prints most (pos n) (45 ∷ digits) e in
    let front = unsigned-decimal n (omega (arith, h.1)) in
    let minus = ap (λ cs. get_or cs 0 0) h.0 in
    absurd (omega arith)
below_from_prints most digits (negsuc n) small e =
    let h = signed_in-prints most (negsuc n) (45 ∷ digits) e in
    record { n = n; value = refl; spelt = number_in-spells most (suc n) digits small (ap (drop 1) h.0) h.1 }

-- behind a sign the word spells the number below 0
pub signed_in-minus : (most : ℕ) (word digits : List ℕ) (o : Option ℕ) → most < 10 ^ 64 → word ≡ 45 ∷ digits → o ≡ number_in most digits → option_and_then below_zero o ≡ signed_in most word
signed_in-minus most word digits None small e is = sym (ap (signed_in most) e ∙ none_of (signed_in most (45 ∷ digits)) (λ z h. let b = below_from_prints most digits z small h in cc))
signed_in-minus most word digits (Some zero) small e is = sym (ap (signed_in most) e ∙ none_of (signed_in most (45 ∷ digits)) (λ z h. let b = below_from_prints most digits z small h in cc))
signed_in-minus most word digits (Some (suc n)) small e is = let h = number_in-prints most (suc n) digits (sym is) in sym (signed_in-spells most (negsuc n) word small (e ∙ ap (λ cs. 45 ∷ cs) h.0) h.1)

-- what is spelt without a sign
record IsPlain (most : ℕ) (word : List ℕ) (z : ℤ) : Type 0 where
  n : ℕ
  value : z ≡ pos n
  spelt : number_in most word ≡ Some n

plain_from_prints : (most : ℕ) (word : List ℕ) (z : ℤ) → most < 10 ^ 64 → ((rest : List ℕ) → word ≢ 45 ∷ rest) → signed_in most word ≡ Some z → IsPlain most word z
plain_from_prints most word (pos n) small unsigned e =
    let h = signed_in-prints most (pos n) word e in
    record { n = n; value = refl; spelt = number_in-spells most n word small h.0 h.1 }
plain_from_prints most word (negsuc n) small unsigned e = absurd (unsigned (decimal (suc n)) (signed_in-prints most (negsuc n) word e).0)

-- without a sign the word spells what it spells as a number
pub signed_in-plain : (most : ℕ) (word : List ℕ) (o : Option ℕ) → most < 10 ^ 64 → ((rest : List ℕ) → word ≢ 45 ∷ rest) → o ≡ number_in most word → option_map pos o ≡ signed_in most word
signed_in-plain most word None small unsigned is = sym (none_of (signed_in most word) (λ z h. let b = plain_from_prints most word z small unsigned h in cc))
signed_in-plain most word (Some n) small unsigned is = let h = number_in-prints most n word (sym is) in sym (signed_in-spells most (pos n) word small h.0 h.1)

-- What `parse` reads of a word, and what the word spells.
use Rattle.std.proofs.Common.{◌≡◌, ℕ, ◌^◌, ◌<◌, List, length, get_or, Option, Some, None, Result, Ok, Err, option_and_then, nat_le, sym, refl, ap, subst, ◌∙◌, inl, inr, arith}
use Rattle.std.specs.Bool.{then_some}
use Rattle.std.specs.Fmt.{decimal}
use Rattle.std.specs.Result.{result_ok}
use Rattle.std.specs.Str.{IsUtf8}
use Rattle.std.specs.Str.Parse.{AllDigits, ParsesUnsigned, digits_value}
use Rattle.std.proofs.lemmas.Str.{IsUtf8-from_ascii}
use Rattle.std.proofs.lemmas.Bool.{cases_lt, cases_Bool, leb-true, leb-false}
use Rattle.std.proofs.lemmas.Fmt.{IsAscii-decimal, first_decimal, decimal_digit, decimal_injective, decimal_is_IsNumeral, decimal-digits_value, parse-decimal}
use Rattle.std.proofs.lemmas.Str.Parse.{IsNumeralModel, numerals_by_value, tells_digits, digit_at, parse_plain}
use Rattle.number_words.specs.Numbers.{number_in, HasPlusOrLeadingZero}
use Rattle.number_words.specs.NumberLaws.{number_in-prints, number_in-spells}

-- what has no value is nothing
pub none_of : {A : Type 0} (o : Option A) → ((x : A) → o ≡ Some x → ⊥) → o ≡ None
none_of None never = refl
none_of (Some x) never = absurd (never x refl)

-- no number prints with a plus or a needless 0
plain-decimal : (n : ℕ) → n < 2 ^ 64 → HasPlusOrLeadingZero (decimal n) → ⊥
plain-decimal n small (inl plus) = let d = (decimal_is_IsNumeral n small).0 in let front = digit_at (decimal n) 0 d.1 d.0 in omega arith
plain-decimal n small (inr zero) =
    elim (cases_lt n 1) [
      | inl none_left ↦ let one = ap length (decimal_digit n (omega arith)) in omega arith
      | inr some_left ↦ let front = first_decimal n (omega arith) small in omega arith
    ]

-- a word with one of them spells no number
pub number_in-refused : (most : ℕ) (word : List ℕ) → most < 2 ^ 64 → HasPlusOrLeadingZero word → number_in most word ≡ None
number_in-refused most word small refused = none_of (number_in most word) (λ n e. let h = number_in-prints most n word e in plain-decimal n (omega (arith, h.1)) (subst HasPlusOrLeadingZero h.0 refused))

-- the number, where it is within the bound
abbrev pub bounded : ℕ → Option ℕ → Option ℕ
bounded most o = option_and_then (λ n. then_some (nat_le n most) n) o

-- std's own digits and their value
own : IsNumeralModel (AllDigits 10) (digits_value 10)
own = numerals_by_value _ tells_digits

-- what prints as the word is what it spells, where it is within the bound
bounded-prints : (most n : ℕ) (word : List ℕ) → most < 2 ^ 64 → n < 2 ^ 64 → decimal n ≡ word → number_in most word ≡ bounded most (Some n)
bounded-prints most n word small fits e =
    elim (cases_Bool (nat_le n most)) [
      | inl within ↦ rw within (number_in-spells most n word (omega arith) (sym e) (leb-true n most within))
      | inr beyond ↦ rw beyond (none_of (number_in most word) (λ m is.
          let h = number_in-prints most m word is in
          let same = decimal_injective n m fits (omega (arith, h.1)) (e ∙ h.0) in
          omega (arith, h.1, leb-false n most beyond)))
    ]

-- a word without them spells what `parse` reads, within the bound
pub number_in-parsed : {E : Type 0} (most : ℕ) (word : List ℕ) (r : Result ℕ E) → most < 2 ^ 64 → (HasPlusOrLeadingZero word → ⊥) → ParsesUnsigned 64 10 word r → number_in most word ≡ bounded most (result_ok r)
number_in-parsed {E} most word (Ok n) small plain parsed =
    let read = parse_plain own {E = E} 64 word (Ok n) parsed (λ plus. plain (inl plus)) in
    let alone : get_or word 0 0 ≡ 48 → length word ≡ 1 = λ zero. elim (cases_lt 1 (length word)) [ inl more ↦ absurd (plain (inr (zero, more))) | inr one ↦ omega (arith, read.0.1) ] in
    let prints = decimal-digits_value own word read.0.0 read.0.1 alone read.0.2 in
    bounded-prints most n word small (omega (arith, read.0.2, read.1)) (ap decimal read.1 ∙ prints)
number_in-parsed most word (Err e) small plain parsed = none_of (number_in most word) (λ n is. let h = number_in-prints most n word is in let read = parse-decimal 64 n word (Err e) (omega (arith, h.1)) (omega (arith, h.1)) h.0 parsed in cc)

-- what is no text spells no number
pub number_in-no_text : (most : ℕ) (word : List ℕ) → most < 2 ^ 64 → (IsUtf8 word → ⊥) → number_in most word ≡ None
number_in-no_text most word small no_text = none_of (number_in most word) (λ n e. let h = number_in-prints most n word e in no_text (subst IsUtf8 (sym h.0) (IsUtf8-from_ascii (decimal n) (IsAscii-decimal n (omega (arith, h.1))))))

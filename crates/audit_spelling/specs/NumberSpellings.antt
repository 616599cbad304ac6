-- Numbers as words of a line.
use Rattle.std.proofs.Common.{◌≡◌, ℕ, ◌-◌, ◌^◌, ◌<◌, ◌≤◌, ◌==◌, false, List, [], ◌∷◌, Option, Some, None, refl, sym, ap, ◌∙◌, arith}
use Rattle.std.specs.Fmt.{decimal}
use Rattle.std.specs.List.{list_any}
use Rattle.std.specs.Option.{option_map, option_and_then}
use Rattle.std.specs.Str.Parse.{AllDigits}
use Rattle.std.proofs.lemmas.Bool.{ne_eqb, or_from}
use Rattle.std.proofs.lemmas.Option.{same_Some}
use Rattle.std.proofs.lemmas.Fmt.{decimal_is_IsNumeral_wide}
use Rattle.std.proofs.lemmas.Str.Parse.{tells_digits}
use Rattle.number_words.specs.Numbers.{number_in}
use Rattle.number_words.specs.NumberLaws.{number_in-prints, number_in-spells}
use Rattle.audit_spelling.specs.Words.{ends_word, IsPlain, SpellsWord}
use Rattle.audit_spelling.specs.WordLaws.{has_byte}
use Rattle.audit_spelling.specs.Spellings.{patch_in}

digits_plain : (ds : List ℕ) → AllDigits 10 ds → IsPlain ds
digits_plain [] digits = refl
digits_plain (c ∷ cs) digits =
    let parts = tells_digits.parts c cs digits in
    or_from (ends_word c) (list_any ends_word cs)
    (or_from (c == 32) (c == 10) (ne_eqb c 32 (λ is. omega arith)) (ne_eqb c 10 (λ is. omega arith)))
    (digits_plain cs parts.1)

digits_no_colon : (ds : List ℕ) → AllDigits 10 ds → has_byte 58 ds ≡ false
digits_no_colon [] digits = refl
digits_no_colon (c ∷ cs) digits =
    let parts = tells_digits.parts c cs digits in
    or_from (c == 58) (has_byte 58 cs) (ne_eqb c 58 (λ is. omega arith)) (digits_no_colon cs parts.1)

pub decimal_plain : (n : ℕ) → n < 10 ^ 64 → IsPlain (decimal n)
decimal_plain n few = let is = decimal_is_IsNumeral_wide n few in digits_plain (decimal n) is.0.1

pub decimal_no_colon : (n : ℕ) → n < 10 ^ 64 → has_byte 58 (decimal n) ≡ false
decimal_no_colon n few = let is = decimal_is_IsNumeral_wide n few in digits_no_colon (decimal n) is.0.1

pub number_spells : (most : ℕ) → most < 10 ^ 64 → SpellsWord (number_in most) decimal (λ n. n ≤ most)
number_spells most few = record {
  sound = λ word n is. number_in-prints most n word is;
  complete = λ n within. number_in-spells most n (decimal n) few refl within;
  plain = λ n within. decimal_plain n (omega arith);
}

pub patch_spells : (patches : ℕ) → 1 ≤ patches → patches ≤ 10 ^ 19
    → SpellsWord (patch_in patches) decimal (λ p. p < patches)
patch_spells patches some few =
    let numbers = number_spells (patches - 1) (omega arith) in
    record {
      sound = λ word p is. let spelt = numbers.sound word p is in (spelt.0, omega arith);
      complete = λ p within. numbers.complete p (omega arith);
      plain = λ p within. numbers.plain p (omega arith);
    }

-- ---- two numbers that make one value

pub record AreNumbers {X : Type 0} (First Last : ℕ → Type 0) (make : ℕ → ℕ → X) (a b : List ℕ) (x : X) : Type 0 where
  pub first : ℕ
  pub last : ℕ
  pub is : x ≡ make first last
  pub a_is : a ≡ decimal first
  pub b_is : b ≡ decimal last
  pub first_in : First first
  pub last_in : Last last

module _ {X : Type 0} (first_in last_in : List ℕ → Option ℕ) (First Last : ℕ → Type 0) (make : ℕ → ℕ → X)
    (firsts : SpellsWord first_in decimal First) (lasts : SpellsWord last_in decimal Last) where
  two_in : (a b : List ℕ) (x : X) (m n : Option ℕ) → first_in a ≡ m → last_in b ≡ n
      → option_and_then (λ k. option_map (make k) n) m ≡ Some x → AreNumbers First Last make a b x
  two_in a b x None n a_is b_is is = absurd (cc)
  two_in a b x (Some m) None a_is b_is is = absurd (cc)
  two_in a b x (Some m) (Some n) a_is b_is is =
      let first = firsts.sound a m a_is in
      let last = lasts.sound b n b_is in
      record {
        first = m;
        last = n;
        is = sym (same_Some (make m n) x is);
        a_is = first.0;
        b_is = last.0;
        first_in =
            first.1;
        last_in = last.1;
      }

  pub two_sound : (a b : List ℕ) (x : X) → option_and_then (λ n. option_map (make n) (last_in b)) (first_in a) ≡ Some x
      → AreNumbers First Last make a b x
  two_sound a b x is = two_in a b x (first_in a) (last_in b) refl refl is

  pub two_complete : (m n : ℕ) → First m → Last n → option_and_then (λ k. option_map (make k) (last_in (decimal n)))
      (first_in (decimal m)) ≡ Some (make m n)
  two_complete m n first last =
      ap (option_and_then (λ k. option_map (make k) (last_in (decimal n)))) (firsts.complete m first)
      ∙ ap (option_map (make m)) (lasts.complete n last)

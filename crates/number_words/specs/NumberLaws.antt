-- A word spells a number exactly where it is what the number prints as. What is printed has at most 64 digits.
use Rattle.std.specs.Prelude.{◌≡◌, ℕ, suc, ◌^◌, ◌<◌, ◌≤◌, ◌&&◌, List, ℤ, pos, negsuc, neg_ℤ, Some, None, nat_le, unsigned_abs, bytes_eq}
use Rattle.std.proofs.Common.{ap, subst, ◌∙◌, get_or, arith}
use Rattle.std.specs.Fmt.{decimal, signed_decimal}
use Rattle.std.specs.Str.Parse.{digits_value, signed_digits_value}
use Rattle.std.proofs.lemmas.Bool.{and_parts, and_from, leb-true, le-leb, ne_eqb, cond-true}
use Rattle.std.proofs.lemmas.Option.{cond_some}
use Rattle.std.proofs.lemmas.Slice.Eq.{bytes_eq-Decides}
use Rattle.std.proofs.lemmas.Fmt.{decimal_is_IsNumeral_wide}
use Rattle.std.proofs.lemmas.Str.Parse.{digit_at, without_leading_plus_none}
use Rattle.number_words.specs.Numbers.{number_in, signed_in}

-- what the digits of a printed number are worth
value-decimal : (n : ℕ) → n < 10 ^ 64 → digits_value 10 (decimal n) ≡ n
value-decimal n small = (decimal_is_IsNumeral_wide n small).1

-- no number prints with a sign
pub unsigned-decimal : (n : ℕ) → n < 10 ^ 64 → 48 ≤ get_or (decimal n) 0 0
unsigned-decimal n small = let d = (decimal_is_IsNumeral_wide n small).0 in (digit_at (decimal n) 0 d.1 d.0).0

-- the sign has no part in what a word without one is worth
value-unsigned : (word : List ℕ) → 48 ≤ get_or word 0 0 → signed_digits_value 10 word ≡ pos (digits_value 10 word)
value-unsigned word digit =
    let no_minus = ne_eqb (get_or word 0 0) 45 (λ e. omega arith) in
    rw no_minus (ap (λ ds. pos (digits_value 10 ds)) (without_leading_plus_none word (λ e. omega arith)))

-- what the sign and the digits of a printed integer are worth
value-signed_decimal : (z : ℤ) → unsigned_abs z < 10 ^ 64 → signed_digits_value 10 (signed_decimal z) ≡ z
value-signed_decimal (pos n) small = let front = unsigned-decimal n small in value-unsigned (decimal n) (omega arith) ∙ ap pos (value-decimal n small)
value-signed_decimal (negsuc n) small = ap (λ m. neg_ℤ (pos m)) (value-decimal (suc n) small)

-- what a word spells prints as the word
pub number_in-prints : (most n : ℕ) (word : List ℕ) → number_in most word ≡ Some n → (word ≡ decimal n) × (n ≤ most)
unfolding number_in
number_in-prints most n word e =
    let m = digits_value 10 word in
    let passed = cond_some (bytes_eq word (decimal m) && nat_le m most) m n e in
    let tests = and_parts (bytes_eq word (decimal m)) (nat_le m most) passed.0 in
    ((bytes_eq-Decides word (decimal m)).0 tests.0 ∙ ap decimal passed.1, subst (λ k. k ≤ most) passed.1 (leb-true m most tests.1))

-- what prints as the word is what it spells
pub number_in-spells : (most n : ℕ) (word : List ℕ) → most < 10 ^ 64 → word ≡ decimal n → n ≤ most → number_in most word ≡ Some n
unfolding number_in
number_in-spells most n word small e le =
    let is : digits_value 10 word ≡ n = ap (digits_value 10) e ∙ value-decimal n (omega arith) in
    rw is (cond-true (bytes_eq word (decimal n) && nat_le n most) (Some n) None (and_from (bytes_eq word (decimal n)) (nat_le n most) ((bytes_eq-Decides word (decimal n)).1 e) (le-leb n most le)))

-- the same of integers
pub signed_in-prints : (most : ℕ) (z : ℤ) (word : List ℕ) → signed_in most word ≡ Some z → (word ≡ signed_decimal z) × (unsigned_abs z ≤ most)
unfolding signed_in
signed_in-prints most z word e =
    let y = signed_digits_value 10 word in
    let passed = cond_some (bytes_eq word (signed_decimal y) && nat_le (unsigned_abs y) most) y z e in
    let tests = and_parts (bytes_eq word (signed_decimal y)) (nat_le (unsigned_abs y) most) passed.0 in
    ((bytes_eq-Decides word (signed_decimal y)).0 tests.0 ∙ ap signed_decimal passed.1, subst (λ x. unsigned_abs x ≤ most) passed.1 (leb-true (unsigned_abs y) most tests.1))

pub signed_in-spells : (most : ℕ) (z : ℤ) (word : List ℕ) → most < 10 ^ 64 → word ≡ signed_decimal z → unsigned_abs z ≤ most → signed_in most word ≡ Some z
unfolding signed_in
signed_in-spells most z word small e le =
    let is : signed_digits_value 10 word ≡ z = ap (signed_digits_value 10) e ∙ value-signed_decimal z (omega arith) in
    rw is (cond-true (bytes_eq word (signed_decimal z) && nat_le (unsigned_abs z) most) (Some z) None (and_from (bytes_eq word (signed_decimal z)) (nat_le (unsigned_abs z) most) ((bytes_eq-Decides word (signed_decimal z)).1 e) (le-leb (unsigned_abs z) most le)))

-- Numbers as words: spelt as they are printed, and in no other way.
use Rattle.std.specs.Prelude.{◌≡◌, ℕ, ◌<◌, ◌&&◌, ◌⊎◌, List, length, slice_index, ℤ, Option, Some, None, nat_le, unsigned_abs, bytes_eq, if◌then◌else◌}
use Rattle.std.specs.Fmt.{decimal, signed_decimal}
use Rattle.std.specs.Str.Parse.{digits_value, signed_digits_value}

-- the number of at most `most` that the word spells: the value of its digits, if that prints as the word
unfoldable pub number_in : ℕ → List ℕ → Option ℕ
number_in most word = let n = digits_value 10 word in if bytes_eq word (decimal n) && nat_le n most then Some n else None

-- the integer from -most to most that the word spells: the value of its sign and digits, if that prints as the word
unfoldable pub signed_in : ℕ → List ℕ → Option ℤ
signed_in most word = let z = signed_digits_value 10 word in if bytes_eq word (signed_decimal z) && nat_le (unsigned_abs z) most then Some z else None

-- begins with `+`, or with a 0 before anything else
abbrev pub HasPlusOrLeadingZero : List ℕ → Type 0
HasPlusOrLeadingZero word = (slice_index word 0 ≡ 43) ⊎ ((slice_index word 0 ≡ 48) × (1 < length word))

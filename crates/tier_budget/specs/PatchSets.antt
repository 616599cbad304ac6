-- Sets of patches in words of 64.
use Rattle.std.specs.Prelude.{◌≡◌, ℕ, ◌*◌, ◌/◌, ◌%◌, ◌^◌, ◌≤◌, Bool, true, List, length, slice_index}
use Rattle.std.specs.Int.RustNames.{bit_and}

-- the patch's bit is set in its word
abbrev pub HasPatch : List ℕ → ℕ → Type 0
HasPatch words p = bit_and (slice_index words (p / 64)) (2 ^ (p % 64)) ≡ 2 ^ (p % 64)

-- there is room for n patches, and each that fits is in the set
pub record HasAll (n : ℕ) (fits : ℕ → Bool) (words : List ℕ) : Type 0 where
  pub room : n ≤ 64 * length words
  pub each : (p : ℕ) → fits p ≡ true → HasPatch words p

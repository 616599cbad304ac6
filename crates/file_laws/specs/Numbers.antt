-- A number is spelled by its bytes, and bytes are the spelling of their number.
use Rattle.std.proofs.Common.{◌≡◌, ℕ, zero, suc, ◌+◌, ◌*◌, ◌/◌, ◌%◌, ◌^◌, ◌<◌, ◌≤◌, List, [], ◌∷◌, ◌++◌, length, take, drop, refl, sym, ap, ◌∙◌, arith, inl, inr}
use Rattle.std.specs.Prelude.{ℤ, pos, negsuc, slice_index, FitsSigned}
use Rattle.std.specs.Int.{w32, cast_signed, cast_unsigned, byte_at, bytes_low_first}
use Rattle.std.proofs.Math.Nat.{div-div-eq-div-mul, pow-succ'}
use Rattle.std.proofs.lemmas.Bool.{cases_lt}
use Rattle.std.proofs.lemmas.Int.{to_z-of_z, of_z-to_z}
use Rattle.std.proofs.lemmas.List.{take_all, length-take, get_or-drop, get_or-take, get_or_past}
use Rattle.byteorder.specs.Endian.{little_from}
use Rattle.byteorder.specs.Numbers.{little_from-cons, length-bytes_low_first, little_number-reads_back, little_from-lt}
use Rattle.file_model.specs.Numbers.{number_text, number_in, signed_text, signed_in}

-- each is a byte
abbrev pub IsBytes : List ℕ → Type 0
IsBytes bytes = (i : ℕ) → slice_index bytes i < 256

pub IsBytes-drop : (n : ℕ) (bytes : List ℕ) → IsBytes bytes → IsBytes (drop n bytes)
IsBytes-drop n bytes h i = rw get_or-drop (h (n + i))

pub IsBytes-take : (n : ℕ) (bytes : List ℕ) → IsBytes bytes → IsBytes (take n bytes)
IsBytes-take n bytes h i =
    elim (cases_lt i n) [
      | inl lt ↦ rw (get_or-take n bytes i 0 lt) (h i)
      | inr le ↦ rw (get_or_past (take n bytes) i 0 (omega (arith, length-take n bytes))) (omega arith)
    ]

IsBytes-rest : (b : ℕ) (bytes : List ℕ) → IsBytes (b ∷ bytes) → IsBytes bytes
IsBytes-rest b bytes h i = h (suc i)

-- ---- numbers without a sign

pub length-number_text : (w n : ℕ) → length (number_text w n) ≡ w
unfolding number_text
length-number_text w n = length-bytes_low_first 0 w n

pub number_in-text : (w n : ℕ) (rest : List ℕ) → n < 256 ^ w → number_in w (number_text w n ++ rest) ≡ n
unfolding number_text number_in
number_in-text w n rest h = little_number-reads_back w n rest h

pub number_in-fits : (w : ℕ) (bytes : List ℕ) → IsBytes bytes → number_in w bytes < 256 ^ w
unfolding number_in
number_in-fits w bytes h = little_from-lt 0 w bytes h

byte_at-suc : (i n : ℕ) → byte_at (suc i) n ≡ byte_at i (n / 256)
byte_at-suc zero n = refl
byte_at-suc (suc i) n = ap (λ (x : ℕ). x % 256) (ap (λ (p : ℕ). n / p) (pow-succ' 256 (suc i)) ∙ sym (div-div-eq-div-mul n 256 (256 ^ suc i)))

bytes-suc : (i k n : ℕ) → bytes_low_first (suc i) k n ≡ bytes_low_first i k (n / 256)
bytes-suc i zero n = refl
bytes-suc i (suc k) n = rw (byte_at-suc i n, bytes-suc (suc i) k n) refl

spelled : (w : ℕ) (bytes : List ℕ) → IsBytes bytes → w ≤ length bytes → bytes_low_first 0 w (little_from 0 w bytes) ≡ take w bytes
spelled zero bytes h le = refl
spelled (suc w) [] h le = absurd (omega arith)
spelled (suc w) (b ∷ bytes) h le =
    let others = little_from 0 w bytes in
    let byte = h 0 in
    let moved : little_from 0 (suc w) (b ∷ bytes) ≡ b + 256 * others = ap (λ (r : ℕ). b + 256 * r) (little_from-cons 0 w b bytes) in
    let low : (b + 256 * others) % 256 ≡ b = omega arith in
    let high : (b + 256 * others) / 256 ≡ others = omega arith in
    rw (moved, low, bytes-suc 0 w (b + 256 * others), high, spelled w bytes (IsBytes-rest b bytes h) (omega arith)) refl

pub number_text-in : (w : ℕ) (bytes : List ℕ) → IsBytes bytes → w ≤ length bytes → number_text w (number_in w bytes) ≡ take w bytes
unfolding number_text number_in
number_text-in w bytes h le = spelled w bytes h le

-- equal numbers have equal bytes
pub same_bytes : (w : ℕ) (xs ys : List ℕ) → IsBytes xs → IsBytes ys → length xs ≡ w → length ys ≡ w → number_in w xs ≡ number_in w ys → xs ≡ ys
same_bytes w xs ys hx hy lx ly e =
    sym (take_all w xs (omega arith)) ∙ sym (number_text-in w xs hx (omega arith)) ∙ ap (number_text w) e ∙ number_text-in w ys hy (omega arith) ∙ take_all w ys (omega arith)

-- ---- numbers with a sign

pub length-signed_text : (z : ℤ) → length (signed_text z) ≡ 4
unfolding signed_text
length-signed_text z = length-number_text 4 (cast_unsigned w32 z)

unsigned-fits : (z : ℤ) → FitsSigned w32 z → cast_unsigned w32 z < 256 ^ 4
unsigned-fits (pos n) h = omega (arith, h.sfits)
unsigned-fits (negsuc n) h = omega (arith, h.sfits)

pub signed_in-text : (z : ℤ) (rest : List ℕ) → FitsSigned w32 z → signed_in (signed_text z ++ rest) ≡ z
unfolding signed_text signed_in
signed_in-text z rest h =
    ap (cast_signed w32) (number_in-text 4 (cast_unsigned w32 z) rest (unsigned-fits z h)) ∙ to_z-of_z w32 z h

pub signed_text-in : (bytes : List ℕ) → IsBytes bytes → 4 ≤ length bytes → signed_text (signed_in bytes) ≡ take 4 bytes
unfolding signed_text signed_in
signed_text-in bytes h le =
    ap (number_text 4) (of_z-to_z w32 (number_in 4 bytes) (number_in-fits 4 bytes h)) ∙ number_text-in 4 bytes h le

-- Numbers in fields: what a field spells is read from it, and what is read from bytes is spelled by them.
use Rattle.std.proofs.Common.{◌≡◌, ℕ, ◌+◌, ◌^◌, ◌<◌, ◌≤◌, List, [], ◌∷◌, ◌++◌, length, take, drop, sym, ap, ◌∙◌, arith}
use Rattle.std.specs.Prelude.{slice_index, nat_le, true}
use Rattle.std.proofs.Math.Seq.{drop-append_seam}
use Rattle.std.proofs.lemmas.Bool.{and_parts, leb-true}
use Rattle.std.proofs.lemmas.List.{take-append-drop, drop-drop, take_all, length-drop}
use Rattle.byteorder.specs.Endian.{little_number}
use Rattle.file_model.specs.Numbers.{number_text, number_in}
use Rattle.file_laws.specs.Numbers.{IsBytes-drop, length-number_text, number_in-text, number_in-fits, number_text-in}
use Rattle.view_outside.specs.Files.{AreBytes}
use Rattle.view_outside.specs.Messages.{is_size, field, field_at}

pub length-field : (w n : ℕ) → length (field w n) ≡ w
unfolding field number_text
length-field w n = length-number_text w n

-- how many bytes are asked for at once
pub size_range : (size : ℕ) → is_size size ≡ true → (1 ≤ size) × (size ≤ 1024)
size_range size right =
    let parts = and_parts (nat_le 1 size) (nat_le size 1024) right in
    (leb-true 1 size parts.0, leb-true size 1024 parts.1)

-- ---- fields that were spelled

-- the number that a field spells is read at its place
pub field_at-spelled : (w n place : ℕ) (bytes rest : List ℕ) → drop place bytes ≡ field w n ++ rest → n < 256 ^ w
    → field_at w place bytes ≡ n
unfolding field field_at number_text number_in
field_at-spelled w n place bytes rest is fits = ap (little_number w) is ∙ number_in-text w n rest fits

-- what stands behind a field
pub past_field : (w n place next : ℕ) (bytes rest : List ℕ) → drop place bytes ≡ field w n ++ rest → place + w ≡ next
    → drop next bytes ≡ rest
past_field w n place next bytes rest is far =
    ap (λ (k : ℕ). drop k bytes) (sym far) ∙ sym (drop-drop w place bytes) ∙ ap (drop w) is
    ∙ ap (λ (k : ℕ). drop k (field w n ++ rest)) (sym (length-field w n)) ∙ drop-append_seam (field w n) rest

-- ---- fields that were read

-- a number in a field fits it
pub field_at-fits : (w place : ℕ) (bytes : List ℕ) → AreBytes bytes → field_at w place bytes < 256 ^ w
unfolding field_at number_in
field_at-fits w place bytes are = number_in-fits w (drop place bytes) (IsBytes-drop place bytes are)

-- the number that is read from a field is spelled by its bytes
pub field_spells : (w place next : ℕ) (bytes : List ℕ) → AreBytes bytes → place + w ≡ next → next ≤ length bytes
    → field w (field_at w place bytes) ++ drop next bytes ≡ drop place bytes
unfolding field field_at number_text number_in
field_spells w place next bytes are far within =
    let rest = drop place bytes in
    let there : w ≤ length rest = omega (arith, length-drop place bytes) in
    let text : number_text w (number_in w rest) ≡ take w rest =
    number_text-in w rest (IsBytes-drop place bytes are) there in
    let behind : drop next bytes ≡ drop w rest =
    ap (λ (k : ℕ). drop k bytes) (sym far) ∙ sym (drop-drop w place bytes) in
    ap (λ (l : List ℕ). number_text w (number_in w rest) ++ l) behind ∙ ap (λ (l : List ℕ). l ++ drop w rest) text
    ∙ take-append-drop w rest

-- the same of the last field
pub last_spells : (w place : ℕ) (bytes : List ℕ) → AreBytes bytes → place + w ≡ length bytes
    → field w (field_at w place bytes) ≡ drop place bytes
unfolding field field_at number_text number_in
last_spells w place bytes are far =
    let rest = drop place bytes in
    let size : length rest ≡ w = omega (arith, length-drop place bytes) in
    number_text-in w rest (IsBytes-drop place bytes are) (omega arith) ∙ take_all w rest (omega arith)

-- the first byte, and those behind it
pub kind_spells : (kind : ℕ) (bytes : List ℕ) → slice_index bytes 0 ≡ kind → 1 ≤ length bytes
    → kind ∷ drop 1 bytes ≡ bytes
kind_spells kind [] is some = absurd (omega arith)
kind_spells kind (first ∷ bytes) is some = ap (λ (k : ℕ). k ∷ bytes) (sym is)

-- How many patches and triangles the strip has, and how many bytes its bodies have.
use Rattle.std.proofs.Common.{◌≡◌, ℕ, zero, suc, ◌+◌, ◌-◌, ◌*◌, ◌≤◌, List, [], ◌∷◌, ◌++◌, length, map, refl, sym, ap, ◌∙◌, arith}
use Rattle.std.specs.List.{flat_map, range_with_len, sum_by}
use Rattle.std.proofs.lemmas.List.{length-map}
use Rattle.std.proofs.lemmas.List.FromFn.{length-range_with_len}
use Rattle.std.proofs.lemmas.List.Sums.{sum_by-cons, sum_by-append}
use Rattle.file_model.specs.declared.fields.PatchField.{PatchField}
use Rattle.file_model.specs.Lists.{body_size, bodies_size}
use Rattle.mesh_model.specs.Frames.{triangles_in_all}
use Rattle.strip_laws.specs.Strip.{StripPatch, square, left_half, right_half, halves, opened, strip_patches, fields_of}

-- ---- sums over the strip

sum_of_range : (w : StripPatch → ℕ) (f : ℕ → StripPatch) (s : ℕ) → ((i : ℕ) → w (f i) ≡ s) → (n a : ℕ) → sum_by w (map f (range_with_len a n)) ≡ n * s
sum_of_range w f s each zero a = omega arith
sum_of_range w f s each (suc n) a =
    let first : w (f a) ≡ s = each a in
    let rest : sum_by w (map f (range_with_len (a + 1) n)) ≡ n * s = sum_of_range w f s each n (a + 1) in
    sum_by-cons w (f a) (map f (range_with_len (a + 1) n)) ∙ omega arith

sum_of_halves : (w : StripPatch → ℕ) (c h : ℕ) → ((i : ℕ) → w (left_half c i) + w (right_half c i) ≡ h) → (xs : List ℕ) → sum_by w (flat_map (halves c) xs) ≡ length xs * h
sum_of_halves w c h each [] = omega arith
sum_of_halves w c h each (x ∷ xs) =
    let first : w (left_half c x) + w (right_half c x) ≡ h = each x in
    let rest : sum_by w (flat_map (halves c) xs) ≡ length xs * h = sum_of_halves w c h each xs in
    let tail = sum_by-cons w (right_half c x) (flat_map (halves c) xs) in
    sum_by-cons w (left_half c x) (right_half c x ∷ flat_map (halves c) xs) ∙ omega arith

-- a weight that is the same for each square, for both halves of each square together, and for each opened edge
pub record Weighs (w : StripPatch → ℕ) (c s h r : ℕ) : Type 0 where
  pub squares : (i : ℕ) → w (square i) ≡ s
  pub halves_of : (i : ℕ) → w (left_half c i) + w (right_half c i) ≡ h
  pub rounds : (j : ℕ) → w (opened c j) ≡ r

pub sum_of_strip : (w : StripPatch → ℕ) (c s h r : ℕ) → Weighs w c s h r → sum_by w (strip_patches c) ≡ c * s + c * h + (c - 1) * r
unfolding strip_patches
sum_of_strip w c s h r weighs =
    let squares = map square (range_with_len 0 c) in
    let both = flat_map (halves c) (range_with_len 0 c) in
    let rounds = map (opened c) (range_with_len 0 (c - 1)) in
    let first : sum_by w squares ≡ c * s = sum_of_range w square s weighs.squares c 0 in
    let second : sum_by w both ≡ c * h = sum_of_halves w c h weighs.halves_of (range_with_len 0 c) ∙ ap (λ n. n * h) (length-range_with_len 0 c) in
    let third : sum_by w rounds ≡ (c - 1) * r = sum_of_range w (opened c) r weighs.rounds (c - 1) 0 in
    let rest = sum_by-append w both rounds in
    sum_by-append w squares (both ++ rounds) ∙ omega arith

-- ---- counts

count_ones : (ps : List StripPatch) → length ps ≡ sum_by (λ (p : StripPatch). 1) ps
count_ones [] = refl
count_ones (p ∷ ps) = let rest : length ps ≡ sum_by (λ (p : StripPatch). 1) ps = count_ones ps in let more = sum_by-cons (λ (p : StripPatch). 1) p ps in omega arith

pub patch_count : (c : ℕ) → 1 ≤ c → length (strip_patches c) + 1 ≡ 4 * c
patch_count c some =
    let count : length (strip_patches c) ≡ c * 1 + c * 2 + (c - 1) * 1 =
    count_ones (strip_patches c) ∙ sum_of_strip (λ (p : StripPatch). 1) c 1 2 1 (record { squares = λ i. refl; halves_of = λ i. refl; rounds = λ j. refl }) in
    omega arith

pub field_count : (c : ℕ) → length (fields_of (strip_patches c)) ≡ length (strip_patches c)
field_count c = length-map (strip_patches c) (λ (p : StripPatch). p.field)

sum_of_fields : (w : PatchField → ℕ) (ps : List StripPatch) → sum_by w (fields_of ps) ≡ sum_by (λ (p : StripPatch). w p.field) ps
sum_of_fields w [] = refl
sum_of_fields w (p ∷ ps) = sum_by-cons w p.field (fields_of ps) ∙ ap (λ n. w p.field + n) (sum_of_fields w ps) ∙ sym (sum_by-cons (λ (p : StripPatch). w p.field) p ps)

pub triangle_count : (c : ℕ) → 1 ≤ c → triangles_in_all (fields_of (strip_patches c)) + 6 ≡ 12 * c
triangle_count c some =
    let count : triangles_in_all (fields_of (strip_patches c)) ≡ c * 2 + c * 4 + (c - 1) * 6 =
    sum_of_fields (λ (f : PatchField). f.triangles) (strip_patches c)
    ∙ sum_of_strip (λ (p : StripPatch). p.field.triangles) c 2 4 6 (record { squares = λ i. refl; halves_of = λ i. refl; rounds = λ j. refl }) in
    omega arith

-- ---- bytes of bodies

size_of_fields : (version : ℕ) (ps : List StripPatch) → bodies_size version (fields_of ps) ≡ sum_by (λ (p : StripPatch). body_size version p.field) ps
unfolding bodies_size
size_of_fields version [] = refl
size_of_fields version (p ∷ ps) = ap (λ n. body_size version p.field + n) (size_of_fields version ps) ∙ sym (sum_by-cons (λ (p : StripPatch). body_size version p.field) p ps)

weighs_1 : (c : ℕ) → Weighs (λ (p : StripPatch). body_size 1 p.field) c 60 120 120
unfolding body_size
weighs_1 c = record { squares = λ i. refl; halves_of = λ i. refl; rounds = λ j. refl }

weighs_2 : (c : ℕ) → Weighs (λ (p : StripPatch). body_size 2 p.field) c 48 96 90
unfolding body_size
weighs_2 c = record { squares = λ i. refl; halves_of = λ i. refl; rounds = λ j. refl }

pub bodies_size_1 : (c : ℕ) → 1 ≤ c → bodies_size 1 (fields_of (strip_patches c)) + 120 ≡ 300 * c
bodies_size_1 c some =
    let size : bodies_size 1 (fields_of (strip_patches c)) ≡ c * 60 + c * 120 + (c - 1) * 120 =
    size_of_fields 1 (strip_patches c) ∙ sum_of_strip (λ (p : StripPatch). body_size 1 p.field) c 60 120 120 (weighs_1 c) in
    omega arith

pub bodies_size_2 : (c : ℕ) → 1 ≤ c → bodies_size 2 (fields_of (strip_patches c)) + 90 ≡ 234 * c
bodies_size_2 c some =
    let size : bodies_size 2 (fields_of (strip_patches c)) ≡ c * 48 + c * 96 + (c - 1) * 90 =
    size_of_fields 2 (strip_patches c) ∙ sum_of_strip (λ (p : StripPatch). body_size 2 p.field) c 48 96 90 (weighs_2 c) in
    omega arith

-- What is chosen of the patches of the strip, by their four kinds.
use Rattle.std.proofs.Common.{◌≡◌, ℕ, zero, suc, ◌+◌, ◌-◌, ◌<◌, ◌≤◌, Bool, true, false, cond, List, [], ◌∷◌, ◌++◌, map, refl, ap, ◌∙◌, arith, append-nil, inl, inr}
use Rattle.std.specs.List.{flat_map, range_with_len}
use Rattle.std.proofs.lemmas.Bool.{cases_eq}
use Rattle.std.proofs.lemmas.Grind.{flat_map-append}
use Rattle.std.proofs.lemmas.List.Folds.{flat_map-map}
use Rattle.grid_vertex.specs.declared.triangles.Triangle.{Triangle}
use Rattle.file_model.specs.declared.fields.PatchField.{PatchField}
use Rattle.file_model.specs.Lists.{triangles_of}
use Rattle.mesh_model.specs.Frames.{triangles_where}
use Rattle.strip_laws.specs.Strip.{StripPatch, square, halves, opened, strip_patches, fields_of, bodies_of}

-- ---- the patches that pass a test

-- what a patch gives where its field passes the test
abbrev pub given : {A : Type 0} → (PatchField → Bool) → (StripPatch → List A) → StripPatch → List A
given test g p = cond (test p.field) (g p) []

-- the triangles of a patch
abbrev pub own : StripPatch → List Triangle
own p = triangles_of p.body

pub given_some : {A : Type 0} (test : PatchField → Bool) (g : StripPatch → List A) (p : StripPatch) → test p.field ≡ true → given test g p ≡ g p
given_some test g p e = ap (λ t. cond t (g p) []) e

pub given_none : {A : Type 0} (test : PatchField → Bool) (g : StripPatch → List A) (p : StripPatch) → test p.field ≡ false → given test g p ≡ []
given_none test g p e = ap (λ t. cond t (g p) []) e

with_rest : {A : Type 0} (t : Bool) (xs rest : List A) → cond t (xs ++ rest) rest ≡ cond t xs [] ++ rest
with_rest true xs rest = refl
with_rest false xs rest = refl

pub chosen_given : (test : PatchField → Bool) (ps : List StripPatch) → triangles_where test (fields_of ps) (bodies_of ps) ≡ flat_map (given test own) ps
unfolding triangles_where
chosen_given test [] = refl
chosen_given test (p ∷ ps) =
    with_rest (test p.field) (own p) (triangles_where test (fields_of ps) (bodies_of ps)) ∙ ap (λ rest. given test own p ++ rest) (chosen_given test ps)

-- ---- by kind

pub flat_nested : {A B C : Type 0} (h : B → List C) (g : A → List B) (xs : List A) → flat_map h (flat_map g xs) ≡ flat_map (λ x. flat_map h (g x)) xs
flat_nested h g [] = refl
flat_nested h g (x ∷ xs) = flat_map-append h (g x) (flat_map g xs) ∙ ap (λ rest. flat_map h (g x) ++ rest) (flat_nested h g xs)

pub by_kind : {A : Type 0} (h : StripPatch → List A) (c : ℕ)
    → flat_map h (strip_patches c) ≡ flat_map (λ i. h (square i)) (range_with_len 0 c) ++ (flat_map (λ i. flat_map h (halves c i)) (range_with_len 0 c) ++ flat_map (λ j. h (opened c j)) (range_with_len 0 (c - 1)))
unfolding strip_patches
by_kind h c =
    let squares = map square (range_with_len 0 c) in
    let both = flat_map (halves c) (range_with_len 0 c) in
    let rounds = map (opened c) (range_with_len 0 (c - 1)) in
    flat_map-append h squares (both ++ rounds)
    ∙ (λ t. flat_map-map h square (range_with_len 0 c) t ++ (flat_map-append h both rounds ∙ (λ s. flat_nested h (halves c) (range_with_len 0 c) s ++ flat_map-map h (opened c) (range_with_len 0 (c - 1)) s)) t)

-- the parts, where each is known
pub parts_by_kind : {A : Type 0} (h : StripPatch → List A) (c : ℕ) (xs ys zs : List A)
    → flat_map (λ i. h (square i)) (range_with_len 0 c) ≡ xs → flat_map (λ i. flat_map h (halves c i)) (range_with_len 0 c) ≡ ys → flat_map (λ j. h (opened c j)) (range_with_len 0 (c - 1)) ≡ zs
    → flat_map h (strip_patches c) ≡ xs ++ (ys ++ zs)
parts_by_kind h c xs ys zs x y z = by_kind h c ∙ (λ t. x t ++ (y t ++ z t))

-- ---- few hits in a range

pub none_from : {A : Type 0} (h : ℕ → List A) (n a : ℕ) → ((k : ℕ) → a ≤ k → k < a + n → h k ≡ []) → flat_map h (range_with_len a n) ≡ []
none_from h zero a none = refl
none_from h (suc n) a none =
    let first : h a ≡ [] = none a (omega arith) (omega arith) in
    let rest = none_from h n (a + 1) (λ k from below. none k (omega arith) (omega arith)) in
    λ t. first t ++ rest t

pub one_from : {A : Type 0} (h : ℕ → List A) (n a v : ℕ) → a ≤ v → v < a + n → ((k : ℕ) → a ≤ k → k < a + n → (k ≡ v → ⊥) → h k ≡ []) → flat_map h (range_with_len a n) ≡ h v
one_from h zero a v from below none = absurd (omega arith)
one_from h (suc n) a v from below none =
    elim (cases_eq a v) [
      | inl same ↦
          let rest = none_from h n (a + 1) (λ k from' below'. none k (omega arith) (omega arith) (λ e. absurd (omega arith))) in
          ap (λ r. h a ++ r) rest ∙ append-nil (h a) ∙ ap h same
      | inr apart ↦
          let first : h a ≡ [] = none a (omega arith) (omega arith) apart in
          let rest = one_from h n (a + 1) v (omega arith) (omega arith) (λ k from' below'. none k (omega arith) (omega arith)) in
          λ t. first t ++ rest t
    ]

pub two_from : {A : Type 0} (h : ℕ → List A) (n a v : ℕ) → a ≤ v → v + 1 < a + n → ((k : ℕ) → a ≤ k → k < a + n → (k ≡ v → ⊥) → (k ≡ v + 1 → ⊥) → h k ≡ []) → flat_map h (range_with_len a n) ≡ h v ++ h (v + 1)
two_from h zero a v from below none = absurd (omega arith)
two_from h (suc n) a v from below none =
    elim (cases_eq a v) [
      | inl same ↦
          let rest = one_from h n (a + 1) (v + 1) (omega arith) (omega arith) (λ k from' below' apart. none k (omega arith) (omega arith) (λ e. absurd (omega arith)) apart) in
          λ t. h (same t) ++ rest t
      | inr apart ↦
          let first : h a ≡ [] = none a (omega arith) (omega arith) apart (λ e. absurd (omega arith)) in
          let rest = two_from h n (a + 1) v (omega arith) (omega arith) (λ k from' below'. none k (omega arith) (omega arith)) in
          λ t. first t ++ rest t
    ]

-- the first and the last
pub ends_from : {A : Type 0} (h : ℕ → List A) (n a v : ℕ) → a < v → v + 1 ≡ a + n → ((k : ℕ) → a ≤ k → k < a + n → (k ≡ a → ⊥) → (k ≡ v → ⊥) → h k ≡ []) → flat_map h (range_with_len a n) ≡ h a ++ h v
ends_from h zero a v from below none = absurd (omega arith)
ends_from h (suc n) a v from below none =
    ap (λ r. h a ++ r) (one_from h n (a + 1) v (omega arith) (omega arith) (λ k from' below' apart. none k (omega arith) (omega arith) (λ e. absurd (omega arith)) apart))

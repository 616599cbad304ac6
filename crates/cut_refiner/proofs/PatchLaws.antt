-- Lists of patches whose fields pass a test: they are in range, and sums over them.
use Rattle.std.proofs.Common.{◌≡◌, ℕ, zero, suc, ◌+◌, ◌<◌, ◌≤◌, Bool, true, cond, List, [], ◌∷◌, length, Option, Some, refl, ap, ◌∙◌, arith}
use Rattle.std.specs.Prelude.{slice_get, option_map, unwrap_or, All}
use Rattle.std.specs.List.{AllByRecursion, sum_by}
use Rattle.std.proofs.lemmas.Bool.{cond_both, cond-true, cond-false}
use Rattle.std.proofs.lemmas.List.Sums.{sum_by-cons}
use Rattle.std.proofs.lemmas.List.Elements.{All-from_recursion}
use Rattle.file_model.specs.declared.fields.PatchField.{PatchField}
use Rattle.mesh_model.specs.Graph.{patches_from, patches_where}
use Rattle.mesh_laws.specs.Each.{each_then}
use Rattle.cut_refiner.specs.GrowingCuts.{at_patch}

-- ---- sums

-- the part of a field that passes, else 0
abbrev pub part_where : (PatchField → Bool) → (PatchField → ℕ) → PatchField → ℕ
part_where test part f = cond (test f) (part f) 0

sum_from : (test : PatchField → Bool) (part : PatchField → ℕ) (all fs : List PatchField) (first : ℕ) → ((k : ℕ) → slice_get all (first + k) ≡ slice_get fs k) → sum_by (at_patch part all) (patches_from first test fs) ≡ sum_by (part_where test part) fs
unfolding patches_from
sum_from test part all [] first h = refl
sum_from test part all (f ∷ fs) first h =
    let start : first ≡ first + 0 = omega arith in
    let here = ap (λ (o : Option PatchField). unwrap_or (option_map part o) 0) (ap (slice_get all) start ∙ h 0) in
    let rest = sum_from test part all fs (first + 1) (λ k. let next : first + 1 + k ≡ first + suc k = omega arith in ap (slice_get all) next ∙ h (suc k)) in
    let ps = patches_from (first + 1) test fs in
    let on_list = sum_by-cons (at_patch part all) first ps in
    let on_fields = sum_by-cons (part_where test part) f fs in
    cond_both (test f) (first ∷ ps) ps (λ (qs : List ℕ). sum_by (at_patch part all) qs ≡ sum_by (part_where test part) (f ∷ fs))
    (λ passes. let counted = cond-true (test f) (part f) 0 passes in omega (arith, here, rest, on_list, on_fields, counted))
    (λ fails. let skipped = cond-false (test f) (part f) 0 fails in omega (arith, rest, on_fields, skipped))

pub sum_of_patches : (test : PatchField → Bool) (part : PatchField → ℕ) (fields : List PatchField) → sum_by (at_patch part fields) (patches_where test fields) ≡ sum_by (part_where test part) fields
sum_of_patches test part fields = sum_from test part fields fields 0 (λ k. let start : 0 + k ≡ k = omega arith in ap (slice_get fields) start)

-- ---- ranges

-- a patch whose field passes
pub record IsPassingPatch (test : PatchField → Bool) (all : List PatchField) (p : ℕ) : Type 0 where
  pub field : PatchField
  pub there : slice_get all p ≡ Some field
  pub passes : test field ≡ true

passing_from : (test : PatchField → Bool) (all fs : List PatchField) (first : ℕ) → ((k : ℕ) → slice_get all (first + k) ≡ slice_get fs k) → AllByRecursion (IsPassingPatch test all) (patches_from first test fs)
unfolding patches_from
passing_from test all [] first h = tt
passing_from test all (f ∷ fs) first h =
    let start : first ≡ first + 0 = omega arith in
    let rest = passing_from test all fs (first + 1) (λ k. let next : first + 1 + k ≡ first + suc k = omega arith in ap (slice_get all) next ∙ h (suc k)) in
    cond_both (test f) (first ∷ patches_from (first + 1) test fs) (patches_from (first + 1) test fs) (AllByRecursion (IsPassingPatch test all))
    (λ passes. (record { field = f; there = ap (slice_get all) start ∙ h 0; passes = passes }, rest))
    (λ fails. rest)

pub patches_pass : (test : PatchField → Bool) (fields : List PatchField) → AllByRecursion (IsPassingPatch test fields) (patches_where test fields)
patches_pass test fields = passing_from test fields fields 0 (λ k. let start : 0 + k ≡ k = omega arith in ap (slice_get fields) start)

within_of : (all : List PatchField) (p : ℕ) (f : PatchField) → slice_get all p ≡ Some f → p < length all
within_of [] p f h = absurd (cc)
within_of (g ∷ gs) zero f h = omega arith
within_of (g ∷ gs) (suc p) f h = let rest = within_of gs p f h in omega arith

pub patches_in_range : (test : PatchField → Bool) (fields : List PatchField) → All (λ p. p < length fields) (patches_where test fields)
patches_in_range test fields =
    All-from_recursion (λ p. p < length fields) (patches_where test fields)
    (each_then (IsPassingPatch test fields) (λ p. p < length fields) (patches_where test fields) (λ p is. within_of fields p is.field is.there) (patches_pass test fields))

-- ---- sums term by term

pub sums_add : {X : Type 0} (a b c d : X → ℕ) (xs : List X) → AllByRecursion (λ x. a x + b x ≡ c x + d x) xs → sum_by a xs + sum_by b xs ≡ sum_by c xs + sum_by d xs
sums_add a b c d [] h = refl
sums_add a b c d (x ∷ xs) h = omega (arith, sum_by-cons a x xs, sum_by-cons b x xs, sum_by-cons c x xs, sum_by-cons d x xs, h.0, sums_add a b c d xs h.1)

pub sums_at_most : {X : Type 0} (a b : X → ℕ) (xs : List X) → AllByRecursion (λ x. a x ≤ b x) xs → sum_by a xs ≤ sum_by b xs
sums_at_most a b [] h = omega arith
sums_at_most a b (x ∷ xs) h = omega (arith, sum_by-cons a x xs, sum_by-cons b x xs, h.0, sums_at_most a b xs h.1)

pub sums_split : {X : Type 0} (a b c : X → ℕ) (xs : List X) → AllByRecursion (λ x. a x + b x ≡ c x) xs → sum_by a xs + sum_by b xs ≡ sum_by c xs
sums_split a b c [] h = refl
sums_split a b c (x ∷ xs) h = omega (arith, sum_by-cons a x xs, sum_by-cons b x xs, sum_by-cons c x xs, h.0, sums_split a b c xs h.1)

pub sum_of_none : {X : Type 0} (a : X → ℕ) (xs : List X) → AllByRecursion (λ x. a x ≡ 0) xs → sum_by a xs ≡ 0
sum_of_none a [] h = refl
sum_of_none a (x ∷ xs) h = omega (arith, sum_by-cons a x xs, h.0, sum_of_none a xs h.1)

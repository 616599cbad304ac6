-- What the list of roots says of the root and of every other node.
use Rattle.std.proofs.Common.{◌≡◌, ℕ, zero, suc, ◌+◌, ◌<◌, ◌≤◌, Bool, true, false, cond, eqb, List, [], ◌∷◌, refl, ap, subst, ◌∙◌, arith, inl, inr}
use Rattle.std.specs.List.{AllByRecursion, list_any}
use Rattle.std.proofs.lemmas.Bool.{cases_eq, eq-eqb, eqb-true, not-true, or_cases, or_left, or_right, false_from_ne_true}
use Rattle.file_model.specs.declared.fields.PatchField.{PatchField}
use Rattle.mesh_model.specs.Graph.{leads_to, is_root, roots, numbers_from}
use Rattle.mesh_laws.specs.Each.{each_fails}

-- a number in range that passes the test
pub record IsPassing (test : ℕ → Bool) (first end v : ℕ) : Type 0 where
  pub low : first ≤ v
  pub high : v < end
  pub passes : test v ≡ true

later : (test : ℕ → Bool) (first n : ℕ) (vs : List ℕ) → AllByRecursion (IsPassing test (first + 1) (first + 1 + n)) vs → AllByRecursion (IsPassing test first (first + suc n)) vs
later test first n [] h = tt
later test first n (v ∷ vs) h = (record { low = omega arith; high = omega arith; passes = h.0.passes }, later test first n vs h.1)

with_first : (test : ℕ → Bool) (first n : ℕ) (t : Bool) (vs : List ℕ) → test first ≡ t → AllByRecursion (IsPassing test first (first + suc n)) vs → AllByRecursion (IsPassing test first (first + suc n)) (cond t (first ∷ vs) vs)
with_first test first n true vs e h = (record { low = omega arith; high = omega arith; passes = e }, h)
with_first test first n false vs e h = h

-- each number that is listed passes
listed_passes : (test : ℕ → Bool) (n first : ℕ) → AllByRecursion (IsPassing test first (first + n)) (numbers_from first n test)
unfolding numbers_from
listed_passes test zero first = tt
listed_passes test (suc n) first =
    with_first test first n (test first) (numbers_from (first + 1) n test) refl (later test first n (numbers_from (first + 1) n test) (listed_passes test n (first + 1)))

listed_at : (t : Bool) (first v : ℕ) (vs : List ℕ) → (first ≡ v → t ≡ true) → ((first ≡ v → ⊥) → list_any (λ u. eqb u v) vs ≡ true) → list_any (λ u. eqb u v) (cond t (first ∷ vs) vs) ≡ true
listed_at true first v vs here there =
    elim (cases_eq first v) [
      | inl same ↦ or_left (eqb first v) (list_any (λ u. eqb u v) vs) (eq-eqb first v same)
      | inr apart ↦ or_right (eqb first v) (list_any (λ u. eqb u v) vs) (there apart)
    ]
listed_at false first v vs here there = there (λ same. absurd (let e = here same in cc))

-- each number that passes is listed
passing_is_listed : (test : ℕ → Bool) (n first v : ℕ) → IsPassing test first (first + n) v → list_any (λ u. eqb u v) (numbers_from first n test) ≡ true
unfolding numbers_from
passing_is_listed test zero first v h = absurd (omega arith)
passing_is_listed test (suc n) first v h =
    listed_at (test first) first v (numbers_from (first + 1) n test) (λ same. ap test same ∙ h.passes)
    (λ apart. passing_is_listed test n (first + 1) v (record { low = omega arith; high = omega arith; passes = h.passes }))

only_of_one : (root v : ℕ) → list_any (λ u. eqb u v) (root ∷ []) ≡ true → root ≡ v
only_of_one root v h =
    elim (or_cases (eqb root v) false h) [
      | inl same ↦ eqb-true root v same
      | inr never ↦ absurd cc
    ]

-- what one root means
pub record IsOnlyRoot (nodes : ℕ) (fields : List PatchField) (root : ℕ) : Type 0 where
  pub node : root < nodes
  pub no_patch : AllByRecursion (λ f. leads_to root f ≡ false) fields
  pub others : (v : ℕ) → v < nodes → (root ≡ v → ⊥) → is_root fields v ≡ false

pub only_root_from_roots : (nodes : ℕ) (fields : List PatchField) (root : ℕ) → roots nodes fields ≡ root ∷ [] → IsOnlyRoot nodes fields root
only_root_from_roots nodes fields root e =
    let is = (subst (AllByRecursion (IsPassing (is_root fields) 0 (0 + nodes))) e (listed_passes (is_root fields) nodes 0)).0 in
    record {
      node = omega (arith, is.high);
      no_patch = each_fails (leads_to root) fields (not-true (list_any (leads_to root) fields) is.passes);
      others = λ v node apart. false_from_ne_true (is_root fields v) (λ passes.
          apart (only_of_one root v (subst (λ (vs : List ℕ). list_any (λ u. eqb u v) vs ≡ true) e (passing_is_listed (is_root fields) nodes 0 v (record { low = omega arith; high = omega arith; passes = passes })))));
    }

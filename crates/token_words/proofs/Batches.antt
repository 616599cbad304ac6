-- A caller that locks patches in order and gives them back in order.
use Rattle.std.proofs.Common.{◌≡◌, ℕ, ◌<◌, Bool, true, false, not, ◌&&◌, ◌||◌, List, length, take, get_or, nat_eq, refl, sym, ◌∙◌, inl, inr, arith}
use Rattle.std.specs.List.{list_any, All}
use Rattle.std.specs.List.Sorted.{IsStrictlyIncreasing}
use Rattle.std.proofs.lemmas.Bool.{eqb-true}
use Rattle.std.proofs.lemmas.Bool.Decides.{eqb_tells}
use Rattle.std.proofs.lemmas.List.{get_or-take, get_or_default, length-take}
use Rattle.std.proofs.lemmas.List.Folds.{Any-from_list_any, list_any_none}
use Rattle.std.proofs.lemmas.List.Kept.{AllPairs-from_increasing}
use Rattle.token_words.specs.Batches.{Gains, Loses}
use Rattle.token_words.specs.Changes.{Stays}

nat_eq-below : (a b : ℕ) → b < a → nat_eq a b ≡ false
nat_eq-below a b less = elim (eqb_tells a b) [ inl same ↦ absurd (omega (arith, same.1, less)) | inr other ↦ other.0 ]

-- an ascending list has each number once
pub is_new : (ps : List ℕ) (i d : ℕ) → IsStrictlyIncreasing ps → i < length ps
    → list_any (nat_eq (get_or ps i d)) (take i ps) ≡ false
is_new ps i d ascending within = list_any_none (nat_eq (get_or ps i d)) (take i ps) earlier
  where
    earlier : All (λ x. nat_eq (get_or ps i d) x ≡ false) (take i ps)
    earlier k e near =
        let before : k < i = omega (arith, length-take i ps, near) in
        let less : get_or ps k e < get_or ps i e = AllPairs-from_increasing ps ascending k i e before within in
        rw (get_or-take i ps k e before, get_or_default ps i d e within) (nat_eq-below _ _ less)

-- what holds of each of these patches holds of one among the first of them
pub each_in : (test : ℕ → Bool) (ps : List ℕ) (n : ℕ) → All (λ p. test p ≡ false) ps
    → (p : ℕ) → list_any (nat_eq p) (take n ps) ≡ true → test p ≡ false
each_in test ps n all p is_in =
    let found = Any-from_list_any (nat_eq p) (take n ps) is_in in
    let near : found.0 < length ps = omega (arith, length-take n ps, found.2) in
    let inside : found.0 < n = omega (arith, length-take n ps, found.2) in
    let same : p ≡ found.1 = eqb-true p found.1 found.4 in
    let there : get_or ps found.0 found.1 ≡ found.1 = sym (get_or-take n ps found.0 found.1 inside) ∙ found.3 in
    rw (same, ← there) (all found.0 found.1 near)

-- a set that gained patches that it lacked, and lost them again, is as before
pub regained : (before mid after : ℕ → Bool) (got : List ℕ)
    → ((p : ℕ) → list_any (nat_eq p) got ≡ true → before p ≡ false)
    → Gains before got mid → Loses mid got after → Stays before after
regained before mid after got lacked gains loses p = loses p ∙ (rw (gains p) (by_case (before p) (list_any (nat_eq p) got) (lacked p)))
  where
    by_case : (had is_in : Bool) → (is_in ≡ true → had ≡ false) → ((had || is_in) && not is_in) ≡ had
    by_case true true lacks = sym (lacks refl)
    by_case true false lacks = refl
    by_case false true lacks = refl
    by_case false false lacks = refl

-- what isn't used isn't locked
pub unused-unlocked : (uses locks : ℕ → Bool) → ((p : ℕ) → locks p ≡ true → uses p ≡ true)
    → (p : ℕ) → uses p ≡ false → locks p ≡ false
unused-unlocked uses locks within p unused = by_case (locks p) (uses p) (within p) unused
  where
    by_case : (locked used : Bool) → (locked ≡ true → used ≡ true) → used ≡ false → locked ≡ false
    by_case true used is free = sym (is refl) ∙ free
    by_case false used is free = refl

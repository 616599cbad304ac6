-- Sets of patches as lists.
use Rattle.std.proofs.Common.{◌≡◌, ◌≢◌, ℕ, ◌≤◌, Bool, true, false, not, List, [], ◌∷◌, nat_eq, refl, sym, ap, ◌∙◌, inl, inr, arith}
use Rattle.std.proofs.lemmas.Bool.Decides.{eqb_tells}
use Rattle.std.proofs.lemmas.Map.Views.{any-filter_same}
use mathlib.Core.Logic.{dite}
use native.Mathlib.Decide.{ℕ_discrete}
use Rattle.token_words.specs.Changes.{SetAt, Stays}
use Rattle.token_table.specs.Known.{has, without, one_if}

pub nat_eq-same : (p : ℕ) → nat_eq p p ≡ true
nat_eq-same p = elim (eqb_tells p p) [ inl same ↦ same.0 | inr other ↦ absurd (other.1 refl) ]

pub nat_eq-other : (p q : ℕ) → p ≢ q → nat_eq p q ≡ false
nat_eq-other p q apart = elim (eqb_tells p q) [ inl same ↦ absurd (apart same.1) | inr other ↦ other.0 ]

pub nat_eq-true : (p q : ℕ) → nat_eq p q ≡ true → p ≡ q
nat_eq-true p q is = elim (eqb_tells p q) [ inl same ↦ same.1 | inr other ↦ absurd (cc) ]

pub has-with : (patches : List ℕ) (p : ℕ) → has (p ∷ patches) p ≡ true
has-with patches p = rw (nat_eq-same p) refl

pub has-with_other : (patches : List ℕ) (p q : ℕ) → q ≢ p → has (p ∷ patches) q ≡ has patches q
has-with_other patches p q apart = rw (nat_eq-other q p apart) refl

pub has-without : (patches : List ℕ) (p : ℕ) → has (without patches p) p ≡ false
has-without patches p = any-filter_same (nat_eq p) (λ q. not (nat_eq q p)) false kept patches
  where
    kept : (q : ℕ) → nat_eq p q ≡ true → not (nat_eq q p) ≡ false
    kept q is = let same : p ≡ q = nat_eq-true p q is in rw (← same) (rw (nat_eq-same p) refl)

pub has-without_other : (patches : List ℕ) (p q : ℕ) → q ≢ p → has (without patches p) q ≡ has patches q
has-without_other patches p q apart = any-filter_same (nat_eq q) (λ r. not (nat_eq r p)) true kept patches
  where
    kept : (r : ℕ) → nat_eq q r ≡ true → not (nat_eq r p) ≡ true
    kept r is = let same : q ≡ r = nat_eq-true q r is in rw (nat_eq-other r p (λ e. apart (same ∙ e))) refl

pub one_if-le : (b : Bool) → one_if b ≤ 1
one_if-le true = omega arith
one_if-le false = omega arith

-- who has no patch has the empty list
pub has-none : (patches : List ℕ) → ((p : ℕ) → has patches p ≡ false) → patches ≡ []
has-none [] none = refl
has-none (p ∷ patches) none = let here : true ≡ false = sym (has-with patches p) ∙ none p in absurd (cc)

-- a patch leaves a set
pub leaves : (patches : List ℕ) (p : ℕ) → SetAt (has patches) p false (has (without patches p))
leaves patches p = record { here = has-without patches p; others = λ q apart. has-without_other patches p q apart }

-- a patch that isn't in a set leaves it as it is
pub leaves_none : (patches : List ℕ) (p : ℕ) → has patches p ≡ false → Stays (has patches) (has (without patches p))
leaves_none patches p none q = dite (ℕ_discrete q p)
    (λ same. ap (λ (r : ℕ). has (without patches p) r) same ∙ (has-without patches p ∙ (sym none ∙ ap (λ (r : ℕ). has patches r) (sym same))))
    (λ apart. has-without_other patches p q apart)

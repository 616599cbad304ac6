-- Numbers that stand in a list.
use Rattle.std.proofs.Common.{◌≡◌, ℕ, zero, suc, Bool, true, false, ◌||◌, eqb, List, [], ◌∷◌, ◌++◌, Some, refl, ap, subst, ◌∙◌, inl, inr}
use Rattle.std.specs.Prelude.{◌==◌, slice_get}
use Rattle.std.specs.List.{AllByRecursion, list_any}
use Rattle.std.proofs.lemmas.Bool.{eqb-true, eq-eqb, or_cases, or_left, or_right, false_from_ne_true}
use Rattle.round_model.specs.Order.{Rules, comes_before}
use Rattle.round_laws.specs.Before.{before_never_itself}
use Rattle.round_laws.specs.Ascending.{Ascends}
use Rattle.round_laws.specs.Passing.{rest_behind}

-- the number stands in the list
abbrev pub is_among : List ℕ → ℕ → Bool
is_among vs v = list_any (λ u. u == v) vs

or_assoc : (a b c : Bool) → (a || (b || c)) ≡ ((a || b) || c)
or_assoc true b c = refl
or_assoc false b c = refl

pub among_both : (us vs : List ℕ) (v : ℕ) → is_among (us ++ vs) v ≡ (is_among us v || is_among vs v)
among_both [] vs v = refl
among_both (u ∷ us) vs v = ap (λ (t : Bool). eqb u v || t) (among_both us vs v) ∙ or_assoc (eqb u v) (is_among us v) (is_among vs v)

pub among_at : (vs : List ℕ) (k v : ℕ) → slice_get vs k ≡ Some v → is_among vs v ≡ true
among_at [] k v h = absurd (cc)
among_at (u ∷ us) zero v h = or_left (eqb u v) (is_among us v) (eq-eqb u v (same h))
  where
    same : Some u ≡ Some v → u ≡ v
    same e = cc
among_at (u ∷ us) (suc k) v h = or_right (eqb u v) (is_among us v) (among_at us k v h)

pub middle_among : (us vs : List ℕ) (v : ℕ) → is_among (us ++ v ∷ vs) v ≡ true
middle_among us vs v = among_both us (v ∷ vs) v ∙ or_right (is_among us v) (is_among (v ∷ vs) v) (or_left (eqb v v) (is_among vs v) (eq-eqb v v refl))

-- the node is the first item that it equals
pub record IsSplit (vs : List ℕ) (v : ℕ) : Type 0 where
  pub before : List ℕ
  pub after : List ℕ
  pub is : vs ≡ before ++ v ∷ after

pub split_among : (vs : List ℕ) (v : ℕ) → is_among vs v ≡ true → IsSplit vs v
split_among [] v h = absurd (cc)
split_among (u ∷ us) v h =
    elim (or_cases (eqb u v) (is_among us v) h) [
      | inl here ↦ record { before = []; after = us; is = ap (λ (w : ℕ). w ∷ us) (eqb-true u v here) }
      | inr there ↦ let rest = split_among us v there in record { before = u ∷ rest.before; after = rest.after; is = ap (λ (ws : List ℕ). u ∷ ws) rest.is }
    ]

pub each_among : (P : ℕ → Type 0) (vs : List ℕ) (v : ℕ) → AllByRecursion P vs → is_among vs v ≡ true → P v
each_among P [] v all h = absurd (cc)
each_among P (u ∷ us) v all h =
    elim (or_cases (eqb u v) (is_among us v) h) [
      | inl here ↦ subst P (eqb-true u v here) all.0
      | inr there ↦ each_among P us v all.1 there
    ]

-- each node of the list passes that has what being listed gives
pub each_listed : (P : ℕ → Type 0) (vs : List ℕ) → ((v : ℕ) → is_among vs v ≡ true → P v) → AllByRecursion P vs
each_listed P [] h = tt
each_listed P (u ∷ us) h =
    (h u (or_left (eqb u u) (is_among us u) (eq-eqb u u refl)), each_listed P us (λ v there. h v (or_right (eqb u v) (is_among us v) there)))

-- in an ascending list a node stands once
pub not_behind : (rules : Rules) (v : ℕ) (gone rest : List ℕ) → Ascends rules (gone ++ v ∷ rest) → is_among rest v ≡ false
not_behind rules v gone rest up =
    false_from_ne_true (is_among rest v) (λ there.
    let again = each_among (λ u. comes_before rules v u ≡ true) rest v (rest_behind rules v gone rest up).0 there in
    let never = before_never_itself rules v in
    absurd (cc))

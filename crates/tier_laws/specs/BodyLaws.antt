-- Laws of lists of bodies by patch: which are there, after one is put in or taken out.
use Rattle.std.proofs.Common.{◌≡◌, ◌≢◌, ℕ, zero, suc, ◌<◌, Bool, true, false, List, [], ◌∷◌, length, map, replicate, Option, Some, None, is_some, refl, sym, ap, subst, ◌∙◌, arith, inl, inr}
use Rattle.std.specs.Prelude.{slice_get, slice_index_or, slice_set}
use Rattle.std.proofs.lemmas.Bool.{cases_eq, true≢false, false≢true}
use Rattle.std.proofs.lemmas.Option.{same_Some}

-- whether each is there
abbrev pub marks_of : {X : Type 0} → List (Option X) → List Bool
marks_of bodies = map (λ o. is_some o) bodies

pub get-set_same : {X : Type 0} (xs : List X) (p : ℕ) (x y : X) → slice_get (slice_set xs p x) p ≡ Some y → x ≡ y
get-set_same [] p x y at = absurd (cc)
get-set_same (z ∷ xs) zero x y at = same_Some x y at
get-set_same (z ∷ xs) (suc p) x y at = get-set_same xs p x y at

pub get-set_other : {X : Type 0} (xs : List X) (p q : ℕ) (x : X) → q ≢ p → slice_get (slice_set xs p x) q ≡ slice_get xs q
get-set_other [] p q x ne = refl
get-set_other (z ∷ xs) zero zero x ne = absurd (ne refl)
get-set_other (z ∷ xs) zero (suc q) x ne = refl
get-set_other (z ∷ xs) (suc p) zero x ne = refl
get-set_other (z ∷ xs) (suc p) (suc q) x ne = get-set_other xs p q x (λ same. ne (ap suc same))

-- what holds of each body, holds still after one is put in of which it holds
pub each-set : {X : Type 0} (P : ℕ → X → Type 0) (bodies : List (Option X)) (p : ℕ) (o : Option X) → ((q : ℕ) (b : X) → slice_get bodies q ≡ Some (Some b) → P q b) → ((b : X) → o ≡ Some b → P p b) → (q : ℕ) (b : X) → slice_get (slice_set bodies p o) q ≡ Some (Some b) → P q b
each-set P bodies p o each here q b at =
    elim (cases_eq q p) [
      | inl same ↦ subst (λ (n : ℕ). P n b) (sym same) (here b (get-set_same bodies p o (Some b) (subst (λ (n : ℕ). slice_get (slice_set bodies p o) n ≡ Some (Some b)) same at)))
      | inr ne ↦ each q b (sym (get-set_other bodies p q o ne) ∙ at)
    ]

pub none_there : {X : Type 0} (n q : ℕ) (b : X) → slice_get (replicate n None) q ≡ Some (Some b) → ⊥
none_there zero q b at = absurd (cc)
none_there (suc n) zero b at = absurd (cc)
none_there (suc n) (suc q) b at = none_there n q b at

-- ---- by marks

pub unmarked_is_away : {X : Type 0} (bodies : List (Option X)) (p : ℕ) → slice_get (marks_of bodies) p ≡ Some false → slice_get bodies p ≡ Some None
unmarked_is_away [] p at = absurd (cc)
unmarked_is_away (None ∷ bodies) zero at = refl
unmarked_is_away (Some b ∷ bodies) zero at = absurd (true≢false (same_Some true false at))
unmarked_is_away (o ∷ bodies) (suc p) at = unmarked_is_away bodies p at

pub away_is_unmarked : {X : Type 0} (bodies : List (Option X)) (p : ℕ) → slice_get bodies p ≡ Some None → slice_get (marks_of bodies) p ≡ Some false
away_is_unmarked [] p at = absurd (cc)
away_is_unmarked (None ∷ bodies) zero at = refl
away_is_unmarked (Some b ∷ bodies) zero at = absurd (cc)
away_is_unmarked (o ∷ bodies) (suc p) at = away_is_unmarked bodies p at

-- a body that is there is marked
pub there_is_marked : {X : Type 0} (bodies : List (Option X)) (p : ℕ) → is_some (slice_index_or bodies p None) ≡ true → slice_get (marks_of bodies) p ≡ Some true
there_is_marked [] p there = absurd (false≢true there)
there_is_marked (None ∷ bodies) zero there = absurd (false≢true there)
there_is_marked (Some b ∷ bodies) zero there = refl
there_is_marked (o ∷ bodies) (suc p) there = there_is_marked bodies p there

-- a body is away that is within the list and not there
pub not_there_is_away : {X : Type 0} (bodies : List (Option X)) (p : ℕ) → p < length bodies → is_some (slice_index_or bodies p None) ≡ false → slice_get bodies p ≡ Some None
not_there_is_away [] p within there = absurd (omega arith)
not_there_is_away (None ∷ bodies) zero within there = refl
not_there_is_away (Some b ∷ bodies) zero within there = absurd (true≢false there)
not_there_is_away (o ∷ bodies) (suc p) within there = not_there_is_away bodies p (omega arith) there

pub away_not_there : {X : Type 0} (bodies : List (Option X)) (p : ℕ) → slice_get bodies p ≡ Some None → is_some (slice_index_or bodies p None) ≡ false
away_not_there [] p at = absurd (cc)
away_not_there (None ∷ bodies) zero at = refl
away_not_there (Some b ∷ bodies) zero at = absurd (cc)
away_not_there (o ∷ bodies) (suc p) at = away_not_there bodies p at

-- a body that is there, with the body
pub there_is_body : {X : Type 0} (bodies : List (Option X)) (p : ℕ) (b : X) → slice_index_or bodies p None ≡ Some b → slice_get bodies p ≡ Some (Some b)
there_is_body [] p b at = absurd (cc)
there_is_body (o ∷ bodies) zero b at = cc
there_is_body (o ∷ bodies) (suc p) b at = there_is_body bodies p b at

pub body_is_there : {X : Type 0} (bodies : List (Option X)) (p : ℕ) (b : X) → slice_get bodies p ≡ Some (Some b) → slice_index_or bodies p None ≡ Some b
body_is_there [] p b at = absurd (cc)
body_is_there (o ∷ bodies) zero b at = same_Some o (Some b) at
body_is_there (o ∷ bodies) (suc p) b at = body_is_there bodies p b at

-- of nothing none is marked
pub marks_of_nothing : (X : Type 0) (n : ℕ) → marks_of {X = X} (replicate n None) ≡ replicate n false
marks_of_nothing X zero = refl
marks_of_nothing X (suc n) = ap (λ (ms : List Bool). false ∷ ms) (marks_of_nothing X n)

-- No answer falls exactly where the epochs of one patch rise along all of them.
use Rattle.std.proofs.Common.{◌≡◌, ℕ, zero, suc, ◌==◌, false, ◌&&◌, List, [], ◌∷◌, ◌++◌, Option, Some, None, refl, sym, subst, ◌∙◌, append_assoc, append-nil, arith, inl, inr}
use Rattle.std.specs.Prelude.{nat_lt, All}
use Rattle.std.proofs.lemmas.Bool.{cond_both, cond-false, and_cases, and_left, and_right, or_parts, or_from, eqb-false, ne_eqb, ltb-false, le-ltb, cases_eq}
use Rattle.std.proofs.lemmas.List.Elements.{All-nil, All-cons}
use Rattle.std.proofs.lemmas.List.{map-append}
use Rattle.file_model.specs.declared.fields.Try.{Try}
use Rattle.token_words.specs.Tries.{IsInOrder, Rise}
use Rattle.session_model.specs.Finishes.{pairs_of}
use Rattle.audit_frames.specs.Answers.{falls, first_fall}

abbrev pair_of : Try → ℕ × ℕ
pair_of t = (t.patch, t.epoch)

-- ---- lists of all

all_first : {X : Type 0} (P : X → Type 0) (x : X) (xs : List X) → All P (x ∷ xs) → P x
all_first P x xs all = all zero x (omega arith)

all_rest : {X : Type 0} (P : X → Type 0) (x : X) (xs : List X) → All P (x ∷ xs) → All P xs
all_rest P x xs all = λ k d within. all (suc k) d (omega arith)

all_front : {X : Type 0} (P : X → Type 0) (xs ys : List X) → All P (xs ++ ys) → All P xs
all_front P [] ys all = All-nil P
all_front P (x ∷ xs) ys all = All-cons P x xs (all_first P x (xs ++ ys) all)
    (all_front P xs ys (all_rest P x (xs ++ ys) all))

all_last : {X : Type 0} (P : X → Type 0) (xs : List X) (y : X) → All P (xs ++ (y ∷ [])) → P y
all_last P [] y all = all_first P y [] all
all_last P (x ∷ xs) y all = all_last P xs y (all_rest P x (xs ++ (y ∷ [])) all)

all_one_more : {X : Type 0} (P : X → Type 0) (xs : List X) (y : X) → All P xs → P y → All P (xs ++ (y ∷ []))
all_one_more P [] y all here = All-cons P y [] here (All-nil P)
all_one_more P (x ∷ xs) y all here = All-cons P x (xs ++ (y ∷ [])) (all_first P x xs all)
    (all_one_more P xs y (all_rest P x xs all) here)

-- ---- one more try

rise_front : (us vs : List (ℕ × ℕ)) → Rise (us ++ vs) → Rise us
unfolding Rise
rise_front [] vs rise = tt
rise_front (u ∷ us) vs rise = (all_front (IsInOrder u) us vs rise.0, rise_front us vs rise.1)

rise_last : (us : List (ℕ × ℕ)) (t : ℕ × ℕ) → Rise (us ++ (t ∷ [])) → All (λ u. IsInOrder u t) us
unfolding Rise
rise_last [] t rise = All-nil (λ u. IsInOrder u t)
rise_last (u ∷ us) t rise = All-cons (λ v. IsInOrder v t) u us (all_last (IsInOrder u) us t rise.0)
    (rise_last us t rise.1)

rise_one_more : (us : List (ℕ × ℕ)) (t : ℕ × ℕ) → Rise us → All (λ u. IsInOrder u t) us → Rise (us ++ (t ∷ []))
unfolding Rise
rise_one_more [] t rise all = (All-nil (IsInOrder t), tt)
rise_one_more (u ∷ us) t rise all = (
  all_one_more (IsInOrder u) us t rise.0 (all_first (λ v. IsInOrder v t) u us all),
  rise_one_more us t rise.1
      (all_rest (λ v. IsInOrder v t) u us all),
)

-- ---- the test

in_order : (e t : Try) → ((t.patch == e.patch) && nat_lt t.epoch e.epoch) ≡ false → IsInOrder (pair_of e) (pair_of t)
in_order e t none same =
    elim (and_cases (t.patch == e.patch) (nat_lt t.epoch e.epoch) none) [
      | inl other ↦ absurd (eqb-false t.patch e.patch other same)
      | inr not_below ↦ ltb-false t.epoch e.epoch not_below
    ]

no_fall_of : (e t : Try) → IsInOrder (pair_of e) (pair_of t) → ((t.patch == e.patch) && nat_lt t.epoch e.epoch) ≡ false
no_fall_of e t order =
    elim (cases_eq t.patch e.patch) [
      | inl same ↦ and_right (t.patch == e.patch) (nat_lt t.epoch e.epoch) (le-ltb t.epoch e.epoch (order same))
      | inr other ↦ and_left (t.patch == e.patch) (nat_lt t.epoch e.epoch) (ne_eqb t.patch e.patch other)
    ]

orders_from : (earlier : List Try) (t : Try) → falls earlier t ≡ false
    → All (λ u. IsInOrder u (pair_of t)) (pairs_of earlier)
orders_from [] t none = All-nil (λ u. IsInOrder u (pair_of t))
orders_from (e ∷ es) t none =
    let parts = or_parts ((t.patch == e.patch) && nat_lt t.epoch e.epoch) (falls es t) none in
    All-cons (λ u. IsInOrder u (pair_of t)) (pair_of e) (pairs_of es) (in_order e t parts.0) (orders_from es t parts.1)

orders_to : (earlier : List Try) (t : Try) → All (λ u. IsInOrder u (pair_of t)) (pairs_of earlier)
    → falls earlier t ≡ false
orders_to [] t all = refl
orders_to (e ∷ es) t all =
    or_from ((t.patch == e.patch) && nat_lt t.epoch e.epoch) (falls es t)
    (no_fall_of e t (all_first (λ u. IsInOrder u (pair_of t)) (pair_of e) (pairs_of es) all))
    (orders_to es t (all_rest (λ u. IsInOrder u (pair_of t)) (pair_of e) (pairs_of es) all))

pairs_one_more : (earlier : List Try) (t : Try) → pairs_of (earlier ++ (t ∷ [])) ≡ pairs_of earlier ++ (pair_of t ∷ [])
pairs_one_more earlier t = map-append (λ (u : Try). (u.patch, u.epoch)) earlier (t ∷ [])

-- ---- all answers

pub rises_from : (earlier tries : List Try) → Rise (pairs_of earlier) → first_fall earlier tries ≡ None
    → Rise (pairs_of (earlier ++ tries))
rises_from earlier [] rise none = subst (λ (ts : List Try). Rise (pairs_of ts)) (sym (append-nil earlier)) rise
rises_from earlier (t ∷ ts) rise none =
    cond_both (falls earlier t) (Some t.patch) (first_fall (earlier ++ (t ∷ [])) ts)
    (λ (o : Option ℕ). o ≡ None → Rise (pairs_of (earlier ++ (t ∷ ts))))
    (λ fall is. absurd (cc))
    (λ no_fall is.
    let front : Rise (pairs_of (earlier ++ (t ∷ []))) = subst Rise (sym (pairs_one_more earlier t))
    (rise_one_more (pairs_of earlier) (pair_of t) rise (orders_from earlier t no_fall)) in
    subst (λ (us : List Try). Rise (pairs_of us)) (append_assoc earlier (t ∷ []) ts)
    (rises_from (earlier ++ (t ∷ [])) ts front is))
    none

pub rises_to : (earlier tries : List Try) → Rise (pairs_of (earlier ++ tries)) → first_fall earlier tries ≡ None
rises_to earlier [] rise = refl
rises_to earlier (t ∷ ts) rise =
    let on : Rise (pairs_of ((earlier ++ (t ∷ [])) ++ ts)) = subst (λ (us : List Try). Rise (pairs_of us))
    (sym (append_assoc earlier (t ∷ []) ts)) rise in
    let split : Rise (pairs_of (earlier ++ (t ∷ [])) ++ pairs_of ts) = subst Rise
    (map-append (λ (u : Try). (u.patch, u.epoch)) (earlier ++ (t ∷ [])) ts) on in
    let front : Rise (pairs_of earlier ++ (pair_of t ∷ [])) = subst Rise (pairs_one_more earlier t)
    (rise_front (pairs_of (earlier ++ (t ∷ []))) (pairs_of ts) split) in
    cond-false (falls earlier t) (Some t.patch) (first_fall (earlier ++ (t ∷ [])) ts)
    (orders_to earlier t (rise_last (pairs_of earlier) (pair_of t) front))
    ∙ rises_to (earlier ++ (t ∷ [])) ts on

-- What the tests of tries say of tries that follow one another, and of those of one node's patches.
use Rattle.std.proofs.Common.{◌≡◌, ◌≢◌, ℕ, Bool, true, false, ◌&&◌, ◌||◌, eqb, List, [], ◌∷◌, ◌++◌, refl, sym, ap, ◌∙◌, inl, inr}
use Rattle.std.specs.List.{AllByRecursion}
use Rattle.std.proofs.lemmas.Bool.{cond_both, or_cases, or_left, or_right, and_parts, eq-eqb, ne_eqb}
use Rattle.std.proofs.lemmas.List.Folds.{list_any-append}
use Rattle.file_model.specs.declared.fields.Try.{Try}
use Rattle.file_model.specs.Tries.{is_odd}
use Rattle.round_model.specs.Tries.{Tried, Granted, with_try, tried_patches}
use Rattle.round_model.specs.Rounds.{patches_of}
use Rattle.round_laws.specs.Among.{is_among}
use Rattle.round_laws.specs.Answers.{try_of, refused_at}
use Rattle.session_model.specs.Locks.{was_tried, was_granted}

pub tried_both : (tries more : List Try) (p : ℕ) → was_tried (tries ++ more) p ≡ (was_tried tries p || was_tried more p)
tried_both tries more p = list_any-append (λ (t : Try). eqb t.patch p) tries more

pub granted_both : (tries more : List Try) (p : ℕ) → was_granted (tries ++ more) p ≡ (was_granted tries p || was_granted more p)
granted_both tries more p = list_any-append (λ (t : Try). eqb t.patch p && is_odd t.epoch) tries more

-- the patches of tries are those that were tried
pub among_patches : (tries : List Try) (p : ℕ) → is_among (patches_of tries) p ≡ was_tried tries p
among_patches [] p = refl
among_patches (t ∷ ts) p = ap (λ (b : Bool). eqb t.patch p || b) (among_patches ts p)

-- what was granted was tried
pub granted_was_tried : (tries : List Try) (p : ℕ) → was_granted tries p ≡ true → was_tried tries p ≡ true
granted_was_tried [] p h = h
granted_was_tried (t ∷ ts) p h =
    elim (or_cases (eqb t.patch p && is_odd t.epoch) (was_granted ts p) h) [
      | inl here ↦ or_left (eqb t.patch p) (was_tried ts p) (and_parts (eqb t.patch p) (is_odd t.epoch) here).0
      | inr there ↦ or_right (eqb t.patch p) (was_tried ts p) (granted_was_tried ts p there)
    ]

-- where each try was granted, what was tried was granted
pub all_were_granted : (tries : List Try) (p : ℕ) → AllByRecursion (λ (t : Try). is_odd t.epoch ≡ true) tries → was_tried tries p ≡ true → was_granted tries p ≡ true
all_were_granted [] p all h = h
all_were_granted (t ∷ ts) p all h =
    elim (or_cases (eqb t.patch p) (was_tried ts p) h) [
      | inl here ↦ or_left (eqb t.patch p && is_odd t.epoch) (was_granted ts p) (rw (here, all.0) refl)
      | inr there ↦ or_right (eqb t.patch p && is_odd t.epoch) (was_granted ts p) (all_were_granted ts p all.1 there)
    ]

-- ---- one more try

or_none : (b c d : Bool) → c ≡ false → (b || ((c && d) || false)) ≡ b
or_none true c d e = refl
or_none false false d e = refl
or_none false true d e = absurd (cc)

or_this : (b c d : Bool) → b ≡ false → c ≡ true → (b || ((c && d) || false)) ≡ d
or_this false true true e h = refl
or_this false true false e h = refl
or_this true c d e h = absurd (cc)
or_this false false d e h = absurd (cc)

or_one : (b c : Bool) → (b || (c || false)) ≡ (b || c)
or_one true c = refl
or_one false true = refl
or_one false false = refl

pub tried_one_more : (tries : List Try) (p epoch q : ℕ) → was_tried (tries ++ try_of p epoch ∷ []) q ≡ (was_tried tries q || eqb p q)
tried_one_more tries p epoch q = tried_both tries (try_of p epoch ∷ []) q ∙ or_one (was_tried tries q) (eqb p q)

pub granted_other : (tries : List Try) (p epoch q : ℕ) → q ≢ p → was_granted (tries ++ try_of p epoch ∷ []) q ≡ was_granted tries q
granted_other tries p epoch q apart = granted_both tries (try_of p epoch ∷ []) q ∙ or_none (was_granted tries q) (eqb p q) (is_odd epoch) (ne_eqb p q (λ same. apart (sym same)))

pub granted_here : (tries : List Try) (p epoch : ℕ) → was_granted tries p ≡ false → was_granted (tries ++ try_of p epoch ∷ []) p ≡ is_odd epoch
granted_here tries p epoch never = granted_both tries (try_of p epoch ∷ []) p ∙ or_this (was_granted tries p) (eqb p p) (is_odd epoch) never (eq-eqb p p refl)

-- ---- the tries of one node's patches

-- they are of these patches
pub tried_among : (ps epochs : List ℕ) (p : ℕ) → was_tried (tried_patches ps epochs).tries p ≡ true → is_among ps p ≡ true
unfolding tried_patches
tried_among [] epochs p h = h
tried_among (q ∷ qs) [] p h = absurd (cc)
tried_among (q ∷ qs) (e ∷ es) p h =
    cond_both (is_odd e) (with_try (try_of q e) (tried_patches qs es)) (refused_at q e es) (λ (t : Tried). was_tried t.tries p ≡ true → is_among (q ∷ qs) p ≡ true)
    (λ odd is. elim (or_cases (eqb q p) (was_tried (tried_patches qs es).tries p) is) [
      | inl here ↦ or_left (eqb q p) (is_among qs p) here
      | inr there ↦ or_right (eqb q p) (is_among qs p) (tried_among qs es p there)
    ])
    (λ even is. elim (or_cases (eqb q p) false is) [
      | inl here ↦ or_left (eqb q p) (is_among qs p) here
      | inr there ↦ absurd (cc)
    ]) h

-- where all were granted, each was
pub among_was_granted : (ps epochs : List ℕ) (p : ℕ) → (tried_patches ps epochs).verdict ≡ Granted → is_among ps p ≡ true → was_granted (tried_patches ps epochs).tries p ≡ true
unfolding tried_patches
among_was_granted [] epochs p all h = h
among_was_granted (q ∷ qs) [] p all h = absurd (cc)
among_was_granted (q ∷ qs) (e ∷ es) p all h =
    cond_both (is_odd e) (with_try (try_of q e) (tried_patches qs es)) (refused_at q e es) (λ (t : Tried). t.verdict ≡ Granted → was_granted t.tries p ≡ true)
    (λ odd is. elim (or_cases (eqb q p) (is_among qs p) h) [
      | inl here ↦ or_left (eqb q p && is_odd e) (was_granted (tried_patches qs es).tries p) (rw (here, odd) refl)
      | inr there ↦ or_right (eqb q p && is_odd e) (was_granted (tried_patches qs es).tries p) (among_was_granted qs es p is there)
    ])
    (λ even is. absurd (cc)) all

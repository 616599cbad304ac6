-- Laws of the patches that come: which come, and with which bodies, after one is added, gets its body or goes.
use Rattle.std.proofs.Common.{◌≡◌, ◌≢◌, ℕ, suc, ◌≤◌, Bool, true, false, ◌&&◌, ◌||◌, ◌⊎◌, cond, eqb, List, [], ◌∷◌, ◌++◌, length, Some, None, refl, sym, ap, ap₂, subst, ◌∙◌, arith, inl, inr}
use Rattle.std.specs.Prelude.{Option}
use Rattle.std.proofs.Math.Bool.{or_assoc, or-false, and-false}
use Rattle.std.proofs.lemmas.Bool.{cond_both, cond-true, cond-false, eqb-true, eqb-false, eq-eqb, ne_eqb, or_parts, or_cases, or_left, or_right, or_from, and_from, and_parts, and_left, and_right, both_ways, false_from_ne_true, false≢true}
use Rattle.std.proofs.lemmas.Option.{same_Some}
use Rattle.tier_model.specs.declared.turns.Coming.{Coming}
use Rattle.tier_model.specs.Places.{bare, full, is_coming, is_full, first_coming, first_bare, AreApart, with_body, without}

-- ---- a patch that is full comes

pub full_comes : (cs : List Coming) (p : ℕ) → is_full cs p ≡ true → is_coming cs p ≡ true
unfolding is_full is_coming
full_comes [] p h = absurd (false≢true h)
full_comes (c ∷ cs) p h =
    elim (or_cases (eqb c.patch p && c.has_body) (is_full cs p) h) [
      | inl here ↦ or_left (eqb c.patch p) (is_coming cs p) (and_parts (eqb c.patch p) c.has_body here).0
      | inr later ↦ or_right (eqb c.patch p) (is_coming cs p) (full_comes cs p later)
    ]

pub nothing_comes : (p : ℕ) → is_coming [] p ≡ true → ⊥
unfolding is_coming
nothing_comes p comes = absurd (false≢true comes)

-- ---- appended

coming-append : (cs ds : List Coming) (q : ℕ) → is_coming (cs ++ ds) q ≡ (is_coming cs q || is_coming ds q)
unfolding is_coming
coming-append [] ds q = refl
coming-append (c ∷ cs) ds q = ap (λ (b : Bool). eqb c.patch q || b) (coming-append cs ds q) ∙ sym (or_assoc (eqb c.patch q) (is_coming cs q) (is_coming ds q))

full-append : (cs ds : List Coming) (q : ℕ) → is_full (cs ++ ds) q ≡ (is_full cs q || is_full ds q)
unfolding is_full
full-append [] ds q = refl
full-append (c ∷ cs) ds q = ap (λ (b : Bool). (eqb c.patch q && c.has_body) || b) (full-append cs ds q) ∙ sym (or_assoc (eqb c.patch q && c.has_body) (is_full cs q) (is_full ds q))

pub reserved_comes : (cs : List Coming) (p : ℕ) → is_coming (cs ++ bare p ∷ []) p ≡ true
unfolding is_coming
reserved_comes cs p = coming-append cs (bare p ∷ []) p ∙ or_right (is_coming cs p) (eqb p p || false) (or_left (eqb p p) false (eq-eqb p p refl))

pub reserved_others : (cs : List Coming) (p q : ℕ) → q ≢ p → is_coming (cs ++ bare p ∷ []) q ≡ is_coming cs q
unfolding is_coming
reserved_others cs p q ne =
    coming-append cs (bare p ∷ []) q
    ∙ ap (λ (b : Bool). is_coming cs q || (b || false)) (ne_eqb p q (λ same. ne (sym same)))
    ∙ or-false (is_coming cs q)

pub reserved_full : (cs : List Coming) (p q : ℕ) → is_full (cs ++ bare p ∷ []) q ≡ is_full cs q
unfolding is_full
reserved_full cs p q =
    full-append cs (bare p ∷ []) q
    ∙ ap (λ (b : Bool). is_full cs q || (b || false)) (and-false (eqb p q))
    ∙ or-false (is_full cs q)

pub reserved_apart : (cs : List Coming) (p : ℕ) → AreApart cs → is_coming cs p ≡ false → AreApart (cs ++ bare p ∷ [])
unfolding AreApart is_coming
reserved_apart [] p apart away = (refl, tt)
reserved_apart (c ∷ cs) p apart away =
    let parts = or_parts (eqb c.patch p) (is_coming cs p) away in
    (reserved_others cs p c.patch (eqb-false c.patch p parts.0) ∙ apart.0, reserved_apart cs p apart.1 parts.1)

-- ---- with its body

-- the patch of an item stays
same_patch : (c : Coming) (p q : ℕ) → eqb (cond (eqb c.patch p) (full p) c).patch q ≡ eqb c.patch q
same_patch c p q =
    cond_both (eqb c.patch p) (full p) c (λ (d : Coming). eqb d.patch q ≡ eqb c.patch q)
    (λ is. ap (λ (n : ℕ). eqb n q) (sym (eqb-true c.patch p is)))
    (λ never. refl)

pub arrived_comes : (p : ℕ) (cs : List Coming) (q : ℕ) → is_coming (with_body p cs) q ≡ is_coming cs q
unfolding is_coming with_body
arrived_comes p [] q = refl
arrived_comes p (c ∷ cs) q = ap₂ (λ (a b : Bool). a || b) (same_patch c p q) (arrived_comes p cs q)

pub arrived_full : (p : ℕ) (cs : List Coming) → is_coming cs p ≡ true → is_full (with_body p cs) p ≡ true
unfolding is_coming is_full with_body
arrived_full p [] comes = absurd (false≢true comes)
arrived_full p (c ∷ cs) comes =
    cond_both (eqb c.patch p) (full p) c (λ (d : Coming). ((eqb d.patch p && d.has_body) || is_full (with_body p cs) p) ≡ true)
    (λ is. or_left (eqb p p && true) (is_full (with_body p cs) p) (and_from (eqb p p) true (eq-eqb p p refl) refl))
    (λ never. or_right (eqb c.patch p && c.has_body) (is_full (with_body p cs) p) (arrived_full p cs (later (or_cases (eqb c.patch p) (is_coming cs p) comes) never)))
  where
    later : (eqb c.patch p ≡ true) ⊎ (is_coming cs p ≡ true) → eqb c.patch p ≡ false → is_coming cs p ≡ true
    later (inl is) never = absurd (both_ways (eqb c.patch p) never is)
    later (inr comes) never = comes

pub arrived_others : (p : ℕ) (cs : List Coming) (q : ℕ) → q ≢ p → is_full (with_body p cs) q ≡ is_full cs q
unfolding is_full with_body
arrived_others p [] q ne = refl
arrived_others p (c ∷ cs) q ne =
    ap₂ (λ (a b : Bool). a || b)
    (cond_both (eqb c.patch p) (full p) c (λ (d : Coming). (eqb d.patch q && d.has_body) ≡ (eqb c.patch q && c.has_body))
    (λ is. apart p (ne_eqb p q (λ same. ne (sym same))) ∙ sym (apart_of c (ne_eqb c.patch q (λ same. ne (sym same ∙ eqb-true c.patch p is)))))
    (λ never. refl))
    (arrived_others p cs q ne)
  where
    apart : (r : ℕ) → eqb r q ≡ false → (eqb r q && true) ≡ false
    apart r h = and_left (eqb r q) true h

    apart_of : (d : Coming) → eqb d.patch q ≡ false → (eqb d.patch q && d.has_body) ≡ false
    apart_of d h = and_left (eqb d.patch q) d.has_body h

pub arrived_apart : (p : ℕ) (cs : List Coming) → AreApart cs → AreApart (with_body p cs)
unfolding AreApart with_body
arrived_apart p [] apart = tt
arrived_apart p (c ∷ cs) apart = (
  arrived_comes p cs (cond (eqb c.patch p) (full p) c).patch
      ∙ cond_both (eqb c.patch p) (full p) c (λ (d : Coming). is_coming cs d.patch ≡ false)
      (λ is. subst (λ (n : ℕ). is_coming cs n ≡ false) (eqb-true c.patch p is) apart.0)
      (λ never. apart.0),
  arrived_apart p cs apart.1,
)

pub arrived_length : (p : ℕ) (cs : List Coming) → length (with_body p cs) ≡ length cs
unfolding with_body
arrived_length p [] = refl
arrived_length p (c ∷ cs) = ap suc (arrived_length p cs)

-- ---- without it

pub gone_comes : (p : ℕ) (cs : List Coming) → is_coming (without p cs) p ≡ false
unfolding is_coming without
gone_comes p [] = refl
gone_comes p (c ∷ cs) =
    cond_both (eqb c.patch p) (without p cs) (c ∷ without p cs) (λ (ds : List Coming). is_coming ds p ≡ false)
    (λ is. gone_comes p cs)
    (λ never. or_from (eqb c.patch p) (is_coming (without p cs) p) never (gone_comes p cs))

pub gone_others : (p : ℕ) (cs : List Coming) (q : ℕ) → q ≢ p → is_coming (without p cs) q ≡ is_coming cs q
unfolding is_coming without
gone_others p [] q ne = refl
gone_others p (c ∷ cs) q ne =
    cond_both (eqb c.patch p) (without p cs) (c ∷ without p cs) (λ (ds : List Coming). is_coming ds q ≡ (eqb c.patch q || is_coming cs q))
    (λ is. gone_others p cs q ne ∙ sym (ap (λ (b : Bool). b || is_coming cs q) (ne_eqb c.patch q (λ same. ne (sym same ∙ eqb-true c.patch p is)))))
    (λ never. ap (λ (b : Bool). eqb c.patch q || b) (gone_others p cs q ne))

pub gone_full : (p : ℕ) (cs : List Coming) → is_full (without p cs) p ≡ false
gone_full p cs = false_from_ne_true (is_full (without p cs) p) (λ is. both_ways (is_coming (without p cs) p) (gone_comes p cs) (full_comes (without p cs) p is))

pub gone_full_others : (p : ℕ) (cs : List Coming) (q : ℕ) → q ≢ p → is_full (without p cs) q ≡ is_full cs q
unfolding is_full without
gone_full_others p [] q ne = refl
gone_full_others p (c ∷ cs) q ne =
    cond_both (eqb c.patch p) (without p cs) (c ∷ without p cs) (λ (ds : List Coming). is_full ds q ≡ ((eqb c.patch q && c.has_body) || is_full cs q))
    (λ is. gone_full_others p cs q ne ∙ sym (ap (λ (b : Bool). b || is_full cs q) (and_left (eqb c.patch q) c.has_body (ne_eqb c.patch q (λ same. ne (sym same ∙ eqb-true c.patch p is))))))
    (λ never. ap (λ (b : Bool). (eqb c.patch q && c.has_body) || b) (gone_full_others p cs q ne))

-- what comes after, came before
pub gone_came : (p : ℕ) (cs : List Coming) (q : ℕ) → is_coming (without p cs) q ≡ true → is_coming cs q ≡ true
gone_came p cs q comes = sym (gone_others p cs q (λ same. both_ways (is_coming (without p cs) q) (subst (λ (n : ℕ). is_coming (without p cs) n ≡ false) (sym same) (gone_comes p cs)) comes)) ∙ comes

pub gone_apart : (p : ℕ) (cs : List Coming) → AreApart cs → AreApart (without p cs)
unfolding AreApart without
gone_apart p [] apart = tt
gone_apart p (c ∷ cs) apart =
    cond_both (eqb c.patch p) (without p cs) (c ∷ without p cs) AreApart
    (λ is. gone_apart p cs apart.1)
    (λ never. (gone_others p cs c.patch (eqb-false c.patch p never) ∙ apart.0, gone_apart p cs apart.1))

pub gone_length : (p : ℕ) (cs : List Coming) → length (without p cs) ≤ length cs
unfolding without
gone_length p [] = omega arith
gone_length p (c ∷ cs) =
    let fewer = gone_length p cs in
    cond_both (eqb c.patch p) (without p cs) (c ∷ without p cs) (λ (ds : List Coming). length ds ≤ suc (length cs))
    (λ is. omega arith)
    (λ never. omega arith)

-- where it doesn't come nothing changes
pub gone_away : (p : ℕ) (cs : List Coming) → is_coming cs p ≡ false → without p cs ≡ cs
unfolding without is_coming
gone_away p [] away = refl
gone_away p (c ∷ cs) away =
    let parts = or_parts (eqb c.patch p) (is_coming cs p) away in
    cond-false (eqb c.patch p) (without p cs) (c ∷ without p cs) parts.0 ∙ ap (λ (ds : List Coming). c ∷ ds) (gone_away p cs parts.1)

-- of patches that come once each, the first is the one item that goes
pub gone_first : (c : Coming) (cs : List Coming) → AreApart (c ∷ cs) → without c.patch (c ∷ cs) ≡ cs
unfolding without AreApart
gone_first c cs apart = cond-true (eqb c.patch c.patch) (without c.patch cs) (c ∷ without c.patch cs) (eq-eqb c.patch c.patch refl) ∙ gone_away c.patch cs apart.0

-- ---- the first that comes, and the first without a body

pub first_comes : (cs : List Coming) (p : ℕ) → first_coming cs ≡ Some p → is_coming cs p ≡ true
unfolding first_coming is_coming
first_comes [] p first = absurd (cc)
first_comes (c ∷ cs) p first = or_left (eqb c.patch p) (is_coming cs p) (eq-eqb c.patch p (same_Some c.patch p first))

pub none_comes : (cs : List Coming) → first_coming cs ≡ None → cs ≡ []
unfolding first_coming
none_comes [] first = refl
none_comes (c ∷ cs) first = absurd (cc)

pub bare_comes : (cs : List Coming) (p : ℕ) → first_bare cs ≡ Some p → is_coming cs p ≡ true
unfolding first_bare is_coming
bare_comes [] p first = absurd (cc)
bare_comes (c ∷ cs) p first =
    cond_both c.has_body (first_bare cs) (Some c.patch) (λ (o : Option ℕ). o ≡ Some p → (eqb c.patch p || is_coming cs p) ≡ true)
    (λ has later. or_right (eqb c.patch p) (is_coming cs p) (bare_comes cs p later))
    (λ hasnt here. or_left (eqb c.patch p) (is_coming cs p) (eq-eqb c.patch p (same_Some c.patch p here))) first

-- it has no body, since it comes once
pub bare_not_full : (cs : List Coming) (p : ℕ) → AreApart cs → first_bare cs ≡ Some p → is_full cs p ≡ false
unfolding first_bare is_full AreApart
bare_not_full [] p apart first = refl
bare_not_full (c ∷ cs) p apart first =
    cond_both c.has_body (first_bare cs) (Some c.patch) (λ (o : Option ℕ). o ≡ Some p → ((eqb c.patch p && c.has_body) || is_full cs p) ≡ false)
    (λ has later. or_from (eqb c.patch p && c.has_body) (is_full cs p)
    (and_left (eqb c.patch p) c.has_body (ne_eqb c.patch p (λ same. both_ways (is_coming cs p) (subst (λ (n : ℕ). is_coming cs n ≡ false) same apart.0) (bare_comes cs p later))))
    (bare_not_full cs p apart.1 later))
    (λ hasnt here. or_from (eqb c.patch p && c.has_body) (is_full cs p)
    (and_right (eqb c.patch p) c.has_body hasnt)
    (false_from_ne_true (is_full cs p) (λ is. both_ways (is_coming cs p) (subst (λ (n : ℕ). is_coming cs n ≡ false) (same_Some c.patch p here) apart.0) (full_comes cs p is)))) first

-- where none is without a body, each that comes has its body
pub all_are_full : (cs : List Coming) (p : ℕ) → first_bare cs ≡ None → is_coming cs p ≡ true → is_full cs p ≡ true
unfolding first_bare is_full is_coming
all_are_full [] p none comes = absurd (false≢true comes)
all_are_full (c ∷ cs) p none comes =
    cond_both c.has_body (first_bare cs) (Some c.patch) (λ (o : Option ℕ). o ≡ None → ((eqb c.patch p && c.has_body) || is_full cs p) ≡ true)
    (λ has later. elim (or_cases (eqb c.patch p) (is_coming cs p) comes) [
      | inl here ↦ or_left (eqb c.patch p && c.has_body) (is_full cs p) (and_from (eqb c.patch p) c.has_body here has)
      | inr there ↦ or_right (eqb c.patch p && c.has_body) (is_full cs p) (all_are_full cs p later there)
    ])
    (λ hasnt here. absurd (cc)) none

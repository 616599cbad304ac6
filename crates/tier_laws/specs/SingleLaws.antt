-- Of a tier that takes one patch at a time, a turn goes by the rules for one patch.
use Rattle.std.proofs.Common.{◌≡◌, ℕ, ◌≤◌, ltb, List, [], ◌∷◌, length, Option, Some, None, refl, sym, ap, ◌∙◌, arith, inl, inr}
use Rattle.std.proofs.lemmas.Bool.{cases_Bool, cond-true, cond-false, lt-ltb, le-ltb}
use Rattle.tier_model.specs.declared.turns.Coming.{Coming}
use Rattle.tier_model.specs.Places.{first_coming, first_bare}
use Rattle.tier_model.specs.Tiers.{TierState}
use Rattle.tier_model.specs.Choices.{Told, candidate}
use Rattle.tier_model.specs.Turns.{Outcome, fitting, entering, commit_or, fetch_or, reserve_or, ranked_turn_of}
use Rattle.tier_model.specs.SingleTurns.{first_full, single_reserve_or, single_fetch_or, single_commit_or, single_turn_of}

-- nothing comes: the candidate may
entering_empty : (told : Told) (s : TierState) → s.width ≡ 1 → s.coming ≡ [] → entering told s ≡ fitting s (candidate told s)
unfolding entering
entering_empty told s single none =
    let few = ap (λ (cs : List Coming). length cs) none in
    cond-true (ltb (length s.coming) s.width) (fitting s (candidate told s)) None (lt-ltb (length s.coming) s.width (omega arith))

-- one comes: no further one may
entering_one : (told : Told) (s : TierState) (c : Coming) → s.width ≡ 1 → s.coming ≡ c ∷ [] → entering told s ≡ None
unfolding entering
entering_one told s c single one =
    let few = ap (λ (cs : List Coming). length cs) one in
    cond-false (ltb (length s.coming) s.width) (fitting s (candidate told s)) None (le-ltb (length s.coming) s.width (omega arith))

same_reserve : (told : Told) (s : TierState) (o : Outcome) (found : Option ℕ) → s.coming ≡ [] → reserve_or told s o found ≡ single_reserve_or told s o found
unfolding reserve_or fetch_or commit_or single_reserve_or first_bare first_coming
same_reserve told s o (Some c) none = refl
same_reserve told s o None none = ap (λ (cs : List Coming). fetch_or told s o (first_bare cs)) none ∙ ap (λ (cs : List Coming). commit_or told s o (first_coming cs)) none

single-by_coming : (told : Told) (s : TierState) (o : Outcome) (cs : List Coming) → s.width ≡ 1 → length cs ≤ 1 → s.coming ≡ cs → ranked_turn_of told s o ≡ single_turn_of told s o
unfolding ranked_turn_of single_turn_of reserve_or fetch_or commit_or single_commit_or single_fetch_or first_full first_bare first_coming
single-by_coming told s o [] single few is =
    ap (reserve_or told s o) (entering_empty told s single is)
    ∙ same_reserve told s o (fitting s (candidate told s)) is
    ∙ sym (ap (λ (ds : List Coming). single_fetch_or told s o (first_bare ds)) is)
    ∙ sym (ap (λ (ds : List Coming). single_commit_or told s o (first_full ds)) is)
single-by_coming told s o (c ∷ []) single few is =
    let none = ap (reserve_or told s o) (entering_one told s c single is) in
    elim (cases_Bool c.has_body) [
      | inl has ↦
          none
          ∙ ap (fetch_or told s o) (ap first_bare is ∙ cond-true c.has_body None (Some c.patch) has)
          ∙ ap (commit_or told s o) (ap first_coming is)
          ∙ sym (ap (single_commit_or told s o) (ap first_full is ∙ cond-true c.has_body (Some c.patch) None has))
      | inr hasnt ↦
          none
          ∙ ap (fetch_or told s o) (ap first_bare is ∙ cond-false c.has_body None (Some c.patch) hasnt)
          ∙ sym (ap (single_fetch_or told s o) (ap first_bare is ∙ cond-false c.has_body None (Some c.patch) hasnt))
          ∙ sym (ap (single_commit_or told s o) (ap first_full is ∙ cond-false c.has_body (Some c.patch) None hasnt))
    ]
single-by_coming told s o (c ∷ d ∷ cs) single few is = absurd (omega arith)

-- with width 1, and at most one patch that comes, a turn goes by the rules for one patch
pub single-turn : (told : Told) (s : TierState) (o : Outcome) → s.width ≡ 1 → length s.coming ≤ 1 → ranked_turn_of told s o ≡ single_turn_of told s o
single-turn told s o single few = single-by_coming told s o s.coming single few refl

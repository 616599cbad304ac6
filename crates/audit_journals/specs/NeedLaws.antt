-- The tests of an entry's needs tell exactly whether they are met.
use Rattle.std.proofs.Common.{◌≡◌, ℕ, Bool, true, false, not, ◌&&◌, List, [], ◌∷◌, length, Option, Some, None, refl, ap, ◌∙◌}
use Rattle.std.specs.Prelude.{slice_get, nat_lt}
use Rattle.std.proofs.lemmas.Bool.{and_parts, and_from, eqb-true, eq-eqb, ltb-true, lt-ltb, not-true, not_from_false}
use Rattle.tier_model.specs.declared.turns.Turn.{Turn}
use Rattle.tier_model.specs.declared.turns.Turn.TheVariants.{Reserve, Evict, Kept, Got, Lost, Fault, Changed, Commit, Idle}
use Rattle.tier_model.specs.declared.turns.Coming.{Coming}
use Rattle.tier_model.specs.Places.{Places, is_marked, is_coming, first_coming, first_bare, Needs}
use Rattle.audit_journals.specs.Journals.{is_away, is_there, is_patch, is_no_patch, none_comes, meets_needs}

away_from : (o : Option Bool) → is_away o ≡ true → o ≡ Some false
away_from None is = absurd (cc)
away_from (Some true) is = absurd (cc)
away_from (Some false) is = refl

there_from : (o : Option Bool) → is_there o ≡ true → o ≡ Some true
there_from None is = absurd (cc)
there_from (Some true) is = refl
there_from (Some false) is = absurd (cc)

patch_from : (p : ℕ) (o : Option ℕ) → is_patch p o ≡ true → o ≡ Some p
patch_from p None is = absurd (cc)
patch_from p (Some q) is = ap Some (eqb-true q p is)

no_patch_from : (o : Option ℕ) → is_no_patch o ≡ true → o ≡ None
no_patch_from None is = refl
no_patch_from (Some q) is = absurd (cc)

none_from : (cs : List Coming) → none_comes cs ≡ true → cs ≡ []
none_from [] is = refl
none_from (c ∷ cs) is = absurd (cc)

false_from : (t : Bool) → not t ≡ true → t ≡ false
false_from t is = not-true t is

pub needs_from : (width : ℕ) (pinned : List Bool) (a : Places) (entry : Turn) → meets_needs width pinned a entry ≡ true
    → Needs width pinned a entry
needs_from width pinned a (Reserve p) is =
    let few = and_parts (nat_lt (length a.coming) width)
    (is_away (slice_get a.held p) && not (is_coming a.coming p)) is in
    let away = and_parts (is_away (slice_get a.held p)) (not (is_coming a.coming p)) few.1 in (
      ltb-true (length a.coming) width few.0,
      away_from (slice_get a.held p) away.0,
      false_from
          (is_coming a.coming p) away.1,
    )
needs_from width pinned a (Evict p) is =
    let none = and_parts (none_comes a.coming) (is_there (slice_get a.held p) && not (is_marked pinned p)) is in
    let there = and_parts (is_there (slice_get a.held p)) (not (is_marked pinned p)) none.1 in
    (none_from a.coming none.0, there_from (slice_get a.held p) there.0, false_from (is_marked pinned p) there.1)
needs_from width pinned a (Kept p uses) is = absurd (cc)
needs_from width pinned a (Got p) is = patch_from p (first_bare a.coming) is
needs_from width pinned a (Lost p) is = patch_from p (first_bare a.coming) is
needs_from width pinned a (Fault p) is = patch_from p (first_bare a.coming) is
needs_from width pinned a (Changed p fault) is = patch_from p (first_bare a.coming) is
needs_from width pinned a (Commit p) is =
    let both = and_parts (is_patch p (first_coming a.coming)) (is_no_patch (first_bare a.coming)) is in
    (patch_from p (first_coming a.coming) both.0, no_patch_from (first_bare a.coming) both.1)
needs_from width pinned a Idle is = absurd (cc)

first_is : (p : ℕ) (o : Option ℕ) → o ≡ Some p → is_patch p o ≡ true
first_is p o is = ap (is_patch p) is ∙ eq-eqb p p refl

pub needs_to : (width : ℕ) (pinned : List Bool) (a : Places) (entry : Turn) → Needs width pinned a entry
    → meets_needs width pinned a entry ≡ true
needs_to width pinned a (Reserve p) needs =
    and_from (nat_lt (length a.coming) width) (is_away (slice_get a.held p) && not (is_coming a.coming p))
    (lt-ltb (length a.coming) width needs.0)
    (and_from (is_away (slice_get a.held p)) (not (is_coming a.coming p)) (ap is_away needs.1)
    (not_from_false (is_coming a.coming p) needs.2))
needs_to width pinned a (Evict p) needs =
    and_from (none_comes a.coming) (is_there (slice_get a.held p) && not (is_marked pinned p)) (ap none_comes needs.0)
    (and_from (is_there (slice_get a.held p)) (not (is_marked pinned p)) (ap is_there needs.1)
    (not_from_false (is_marked pinned p) needs.2))
needs_to width pinned a (Kept p uses) needs = absurd needs
needs_to width pinned a (Got p) needs = first_is p (first_bare a.coming) needs
needs_to width pinned a (Lost p) needs = first_is p (first_bare a.coming) needs
needs_to width pinned a (Fault p) needs = first_is p (first_bare a.coming) needs
needs_to width pinned a (Changed p fault) needs = first_is p (first_bare a.coming) needs
needs_to width pinned a (Commit p) needs =
    and_from (is_patch p (first_coming a.coming)) (is_no_patch (first_bare a.coming))
    (first_is p (first_coming a.coming) needs.0) (ap is_no_patch needs.1)
needs_to width pinned a Idle needs = absurd needs

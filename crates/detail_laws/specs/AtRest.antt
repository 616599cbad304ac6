-- A tier at rest that has room for all that is needed holds all that is wished and that the tier below has.
use Rattle.std.proofs.Common.{◌≡◌, ◌≢◌, ℕ, ◌+◌, ◌<◌, ◌≤◌, Bool, true, false, not, ◌&&◌, ◌||◌, leb, ltb, List, [], length, map, Option, Some, None, is_some, refl, sym, ap, subst, ◌∙◌, arith, inl, inr}
use Rattle.std.specs.Option.{option_and_then}
use Rattle.std.proofs.lemmas.Bool.{cases_Bool, cases_lt, both_ways, cond-true, or_left, or_right, or_from, and_from, not_from_false, false_from_ne_true, le-leb, lt-ltb}
use Rattle.std.proofs.lemmas.Bool.Decides.{nat_tests}
use Rattle.tier_heap.specs.Entries.{is_above}
use Rattle.tier_model.specs.declared.turns.Coming.{Coming}
use Rattle.tier_model.specs.Places.{is_marked, is_coming}
use Rattle.tier_model.specs.Tiers.{TierState, count, size, kept_wish, is_held, load}
use Rattle.tier_model.specs.Ranks.{outranks}
use Rattle.tier_laws.specs.RankLaws.{outranks_is_ranking}
use Rattle.tier_model.specs.Choices.{Told, candidate, victim}
use Rattle.tier_laws.specs.Chosen.{IsEligible, IsCandidate, candidate_is_highest, no_candidate, no_victim}
use Rattle.tier_model.specs.Turns.{fitting, entering, leaving}
use Rattle.tier_laws.specs.Follows.{AtRest}
use Rattle.settling_laws.specs.ChangeLaws.{nothing_there}
use Rattle.detail_laws.specs.Needs.{is_needed, needed_bytes, KeepsBase}
use Rattle.detail_laws.specs.NeedLaws.{marks_of_held, load_at_rest, room_beside}
use Rattle.detail_laws.specs.Gathers.{is_there, Gathers}

-- the tier has room for all that it needs by the wishes that it keeps
pub record HasRoom (used : ℕ → Bool) (s : TierState) : Type 0 where
  pub room : needed_bytes s (kept_wish s) used ≤ s.budget

-- ---- what is needed

pub wished_is_needed : (s : TierState) (used : ℕ → Bool) (p : ℕ) → is_marked s.base p ≡ false → 0 < kept_wish s p → is_needed s (kept_wish s) used p ≡ true
wished_is_needed s used p not_base wished =
    or_right (is_marked s.pinned p) (not (is_marked s.base p) && (ltb 0 (kept_wish s p) || used p))
    (and_from (not (is_marked s.base p)) (ltb 0 (kept_wish s p) || used p) (not_from_false (is_marked s.base p) not_base) (or_left (ltb 0 (kept_wish s p)) (used p) (lt-ltb 0 (kept_wish s p) wished)))

used_is_needed : (s : TierState) (used : ℕ → Bool) (p : ℕ) → is_marked s.base p ≡ false → used p ≡ true → is_needed s (kept_wish s) used p ≡ true
used_is_needed s used p not_base is_used =
    or_right (is_marked s.pinned p) (not (is_marked s.base p) && (ltb 0 (kept_wish s p) || used p))
    (and_from (not (is_marked s.base p)) (ltb 0 (kept_wish s p) || used p) (not_from_false (is_marked s.base p) not_base) (or_right (ltb 0 (kept_wish s p)) (used p) is_used))

pinned_is_needed : (s : TierState) (used : ℕ → Bool) (p : ℕ) → is_marked s.pinned p ≡ true → is_needed s (kept_wish s) used p ≡ true
pinned_is_needed s used p pinned = or_left (is_marked s.pinned p) (not (is_marked s.base p) && (ltb 0 (kept_wish s p) || used p)) pinned

not_pinned : (s : TierState) (p : ℕ) → KeepsBase s → is_marked s.base p ≡ false → is_marked s.pinned p ≡ false
not_pinned s p keeps not_base = false_from_ne_true (is_marked s.pinned p) (λ pinned. both_ways (is_marked s.base p) not_base (keeps.pins p pinned))

-- what outranks a wished patch is wished
above_is_wished : (wish : ℕ → ℕ) (p c : ℕ) → outranks wish p c ≡ true → 0 < wish c → 0 < wish p
unfolding outranks
above_is_wished wish p c above wished = greater p (wish p) c (wish c) above wished
  where
    greater : (p n c m : ℕ) → is_above (p, n) (c, m) ≡ true → 0 < m → 0 < n
    greater p n c m above wished = grind (arith, nat_tests)

-- ---- the patch may come

rest_is_eligible : (told : Told) (s : TierState) (used spent : ℕ → Bool) (p : ℕ) → AtRest told s → Gathers told s used spent → HasRoom used s → p < count s → is_marked s.base p ≡ false → 0 < kept_wish s p → told.has p ≡ true → is_held s p ≡ false → IsEligible told s p
rest_is_eligible told s used spent p rest gathers has_room within not_base wished has away =
    let not_coming = (nothing_there s p rest.none_comes).0 in
    let not_there : is_there s p ≡ false = or_from (is_held s p) (is_coming s.coming p) away not_coming in
    let unspent : spent p ≡ false = false_from_ne_true (spent p) (λ marked. both_ways (is_there s p) not_there (gathers.there p marked).1) in
    let beside = room_beside s (kept_wish s) used s.pinned p within (λ q below pinned. pinned_is_needed s used q pinned) (not_pinned s p gathers.keeps_base not_base) (wished_is_needed s used p not_base wished) in
    let room = has_room.room in
    record {
      wished = wished;
      not_base = not_base;
      not_held = away;
      not_coming = not_coming;
      not_aside = gathers.calm.none_aside p;
      fits = omega arith;
      has = has;
      low = λ top. let low = gathers.low top p within unspent in omega arith;
    }

-- ---- so there is a candidate, for which there is room

no_room : (told : Told) (s : TierState) (c : ℕ) → entering told s ≡ None → length s.coming < s.width → candidate told s ≡ Some c → s.budget < load s + size s c
unfolding entering fitting
no_room told s c none place chosen =
    elim (cases_lt s.budget (load s + size s c)) [
      | inl full ↦ full
      | inr room ↦ absurd (let enters : entering told s ≡ Some c =
          cond-true (ltb (length s.coming) s.width) (fitting s (candidate told s)) None (lt-ltb (length s.coming) s.width place)
          ∙ ap (fitting s) chosen
          ∙ cond-true (leb (load s + size s c) s.budget) (Some c) None (le-leb (load s + size s c) s.budget room) in cc)
    ]

none_leaves_for : (told : Told) (s : TierState) (c : ℕ) → leaving told s ≡ None → candidate told s ≡ Some c → victim s c ≡ None
unfolding leaving
none_leaves_for told s c none chosen = sym (ap (option_and_then (victim s)) chosen) ∙ none

-- each held patch is pinned, used or wished, since it may not leave for the candidate
held_is_needed : (told : Told) (s : TierState) (used spent : ℕ → Bool) (c q : ℕ) → Gathers told s used spent → IsCandidate told s c → victim s c ≡ None → q < count s → is_held s q ≡ true → is_needed s (kept_wish s) used q ≡ true
held_is_needed told s used spent c q gathers is none within held =
    elim (cases_Bool (is_marked s.pinned q)) [
      | inl pinned ↦ pinned_is_needed s used q pinned
      | inr free ↦
          let not_base : is_marked s.base q ≡ false = false_from_ne_true (is_marked s.base q) (λ base. both_ways (is_marked s.pinned q) free (gathers.keeps_base.held q base held)) in
          elim (cases_Bool (is_marked s.passed q)) [
            | inl passed ↦ used_is_needed s used q not_base (gathers.calm.passed q passed)
            | inr anew ↦ wished_is_needed s used q not_base (stays not_base free anew)
          ]
    ]
  where
    stays : is_marked s.base q ≡ false → is_marked s.pinned q ≡ false → is_marked s.passed q ≡ false → 0 < kept_wish s q
    stays not_base free anew =
        let ne : c ≢ q = λ same. both_ways (is_held s c) is.eligible.not_held (subst (λ (n : ℕ). is_held s n ≡ true) (sym same) held) in
        elim ((outranks_is_ranking (kept_wish s)).either c q ne) [
          | inl below ↦ absurd (no_victim s c q none within (record { held = held; not_pinned = free; not_passed = anew; below = below }))
          | inr above ↦ above_is_wished (kept_wish s) q c above is.eligible.wished
        ]

-- where each held patch is needed a candidate that doesn't come isn't there
pub room_for_candidate : (told : Told) (s : TierState) (used : ℕ → Bool) (c : ℕ) → 1 ≤ s.width → entering told s ≡ None → s.coming ≡ [] → candidate told s ≡ Some c → HasRoom used s → ((q : ℕ) → q < count s → is_held s q ≡ true → is_needed s (kept_wish s) used q ≡ true) → ⊥
room_for_candidate told s used c wide none_enters none_comes chosen has_room needed =
    let is = candidate_is_highest told s c chosen in
    let empty = ap (λ (cs : List Coming). length cs) none_comes in
    let full = no_room told s c none_enters (omega arith) chosen in
    let held = map (λ o. is_some o) s.held in
    let beside = room_beside s (kept_wish s) used held c is.within
    (λ q below marked. needed q below (sym (marks_of_held s.held q) ∙ marked))
    (marks_of_held s.held c ∙ is.eligible.not_held)
    (wished_is_needed s used c is.eligible.not_base is.eligible.wished) in
    let same = load_at_rest s none_comes in
    let room = has_room.room in
    omega arith

none_chosen : (told : Told) (s : TierState) (used spent : ℕ → Bool) (c : ℕ) → 1 ≤ s.width → AtRest told s → Gathers told s used spent → HasRoom used s → candidate told s ≡ Some c → ⊥
none_chosen told s used spent c wide rest gathers has_room chosen =
    room_for_candidate told s used c wide rest.none_enters rest.none_comes chosen has_room
    (λ q below held. held_is_needed told s used spent c q gathers (candidate_is_highest told s c chosen) (none_leaves_for told s c rest.none_leaves chosen) below held)

nothing_chosen : (told : Told) (s : TierState) (o : Option ℕ) → candidate told s ≡ o → ((c : ℕ) → candidate told s ≡ Some c → ⊥) → candidate told s ≡ None
nothing_chosen told s None is never = is
nothing_chosen told s (Some c) is never = absurd (never c is)

pub rest-holds : (told : Told) (s : TierState) (used spent : ℕ → Bool) (p : ℕ) → 1 ≤ s.width → AtRest told s → Gathers told s used spent → HasRoom used s → p < count s → is_marked s.base p ≡ false → 0 < kept_wish s p → told.has p ≡ true → is_held s p ≡ true
rest-holds told s used spent p wide rest gathers has_room within not_base wished has =
    elim (cases_Bool (is_held s p)) [
      | inl held ↦ held
      | inr away ↦ absurd (no_candidate told s p
          (nothing_chosen told s (candidate told s) refl (λ c chosen. none_chosen told s used spent c wide rest gathers has_room chosen))
          within (rest_is_eligible told s used spent p rest gathers has_room within not_base wished has away))
    ]

-- Which rule a turn follows, with all that the rule asks.
use Rattle.std.proofs.Common.{◌≡◌, ℕ, zero, suc, ◌+◌, ◌<◌, ◌≤◌, Bool, true, false, leb, ltb, [], length, Option, Some, None, refl, sym, ap, subst, ◌∙◌}
use Rattle.std.specs.Option.{option_and_then}
use Rattle.std.proofs.lemmas.Bool.{cond_both, cond-true, leb-true, le-leb, ltb-true, lt-ltb}
use Rattle.std.proofs.lemmas.Option.{same_Some}
use Rattle.file_model.specs.declared.faults.FileFault.{FileFault}
use Rattle.file_model.specs.Lists.{SeenBody}
use Rattle.tier_model.specs.declared.turns.Abort.TheVariants as reasons
use Rattle.tier_model.specs.declared.turns.Turn.{Turn}
use Rattle.tier_model.specs.declared.turns.Turn.TheVariants.{Reserve, Evict, Kept, Got, Lost, Fault, Changed, Commit, Idle}
use Rattle.tier_model.specs.Places.{first_coming, first_bare}
use Rattle.tier_model.specs.Tiers.{TierState, size, load}
use Rattle.tier_model.specs.Changes.{reserved, arrived, aborted, committed, dropped, passed_over, calmed}
use Rattle.tier_laws.specs.Chosen.{IsCandidate, IsVictim, candidate_is_highest, victim_is_lowest}
use Rattle.tier_model.specs.Choices.{Told, candidate, victim}
use Rattle.tier_model.specs.Turns.{Fetched, Came, Failed, Broken, Outcome, paired, fitting, entering, leaving, fetching, evicting, leave_or_idle, commit_or, fetch_or, reserve_or, ranked_turn_of}
use Rattle.tier_laws.specs.ComingLaws.{none_comes}

-- ---- the rules

-- the candidate comes: there is a place among those that come, and room for its body
pub record Enters (told : Told) (s : TierState) (c : ℕ) : Type 0 where
  pub place : length s.coming < s.width
  pub chosen : candidate told s ≡ Some c
  pub is_candidate : IsCandidate told s c
  pub room : load s + size s c ≤ s.budget

-- nothing comes, and the patch is the victim for the candidate
pub record Leaves (told : Told) (s : TierState) (v : ℕ) : Type 0 where
  pub none_comes : s.coming ≡ []
  pub ahead : ℕ
  pub chosen : candidate told s ≡ Some ahead
  pub is_candidate : IsCandidate told s ahead
  pub is_victim : IsVictim s ahead v

-- nothing comes, and no patch is to come or to leave
pub record AtRest (told : Told) (s : TierState) : Type 0 where
  pub none_enters : entering told s ≡ None
  pub none_comes : s.coming ≡ []
  pub none_leaves : leaving told s ≡ None

-- the turn of a tier that is told this, and finds this outside
pub data Follows (told : Told) (s : TierState) (o : Outcome) : Turn × TierState → Type 0 where
  Reserves : (c : ℕ) → Enters told s c → Follows told s o (Reserve c, reserved s c)
  Gets : (p : ℕ) (body : SeenBody) → entering told s ≡ None → first_bare s.coming ≡ Some p → told.has p ≡ true → o.fetched ≡ Came body → Follows told s o (Got p, arrived s p body)
  Loses : (p : ℕ) → entering told s ≡ None → first_bare s.coming ≡ Some p → told.has p ≡ false → Follows told s o (Lost p, aborted s p reasons.Lost)
  Fails : (p : ℕ) → entering told s ≡ None → first_bare s.coming ≡ Some p → told.has p ≡ true → o.fetched ≡ Failed → Follows told s o (Fault p, aborted s p reasons.Fault)
  Breaks : (p : ℕ) (fault : FileFault) → entering told s ≡ None → first_bare s.coming ≡ Some p → told.has p ≡ true → o.fetched ≡ Broken fault → Follows told s o (Changed p fault, aborted s p (reasons.Changed fault))
  Commits : (p : ℕ) → entering told s ≡ None → first_bare s.coming ≡ None → first_coming s.coming ≡ Some p → Follows told s o (Commit p, committed s p)
  Evicts : (v : ℕ) → entering told s ≡ None → leaving told s ≡ Some v → Leaves told s v → (told.top ≡ true → o.uses ≡ 0) → Follows told s o (Evict v, dropped s v)
  Keeps : (v uses : ℕ) → entering told s ≡ None → leaving told s ≡ Some v → Leaves told s v → told.top ≡ true → o.uses ≡ suc uses → Follows told s o (Kept v (suc uses), passed_over s v)
  Rests : AtRest told s → Follows told s o (Idle, calmed s)

-- ---- each turn follows a rule

fitting_is : (s : TierState) (o : Option ℕ) (c : ℕ) → fitting s o ≡ Some c → (o ≡ Some c) × (load s + size s c ≤ s.budget)
unfolding fitting
fitting_is s None c is = absurd (cc)
fitting_is s (Some q) c is =
    cond_both (leb (load s + size s q) s.budget) (Some q) None (λ (o : Option ℕ). o ≡ Some c → (Some q ≡ Some c) × (load s + size s c ≤ s.budget))
    (λ room same. (same, subst (λ (p : ℕ). load s + size s p ≤ s.budget) (same_Some q c same) (leb-true (load s + size s q) s.budget room)))
    (λ full none. absurd (cc)) is

pub enters_from : (told : Told) (s : TierState) (c : ℕ) → entering told s ≡ Some c → Enters told s c
unfolding entering
enters_from told s c is =
    cond_both (ltb (length s.coming) s.width) (fitting s (candidate told s)) None (λ (o : Option ℕ). o ≡ Some c → Enters told s c)
    (λ place fits. let both = fitting_is s (candidate told s) c fits in record {
      place = ltb-true (length s.coming) s.width place;
      chosen = both.0;
      is_candidate = candidate_is_highest told s c both.0;
      room = both.1;
    })
    (λ full none. absurd (cc)) is

leaves_with : (told : Told) (s : TierState) (v : ℕ) (o : Option ℕ) → s.coming ≡ [] → candidate told s ≡ o → option_and_then (victim s) o ≡ Some v → Leaves told s v
leaves_with told s v None none chosen is = absurd (cc)
leaves_with told s v (Some c) none chosen is = record {
  none_comes = none;
  ahead = c;
  chosen = chosen;
  is_candidate = candidate_is_highest told s c chosen;
  is_victim = victim_is_lowest s c v is;
}

pub leaves_from : (told : Told) (s : TierState) (v : ℕ) → s.coming ≡ [] → leaving told s ≡ Some v → Leaves told s v
unfolding leaving
leaves_from told s v none is = leaves_with told s v (candidate told s) none refl is

follows_fetch : (told : Told) (s : TierState) (o : Outcome) (p : ℕ) (has : Bool) (fetched : Fetched) → entering told s ≡ None → first_bare s.coming ≡ Some p → told.has p ≡ has → o.fetched ≡ fetched → Follows told s o (fetching has s p fetched)
unfolding fetching
follows_fetch told s o p false fetched none bare has is = Loses p none bare has
follows_fetch told s o p true (Came body) none bare has is = Gets p body none bare has is
follows_fetch told s o p true Failed none bare has is = Fails p none bare has is
follows_fetch told s o p true (Broken fault) none bare has is = Breaks p fault none bare has is

follows_evict : (told : Told) (s : TierState) (o : Outcome) (v : ℕ) (top : Bool) (uses : ℕ) → entering told s ≡ None → leaving told s ≡ Some v → Leaves told s v → told.top ≡ top → o.uses ≡ uses → Follows told s o (evicting top s v uses)
unfolding evicting
follows_evict told s o v false uses none victim leaves top is = Evicts v none victim leaves (λ not. absurd (cc))
follows_evict told s o v true zero none victim leaves top is = Evicts v none victim leaves (λ _. is)
follows_evict told s o v true (suc uses) none victim leaves top is = Keeps v uses none victim leaves top is

follows_leave : (told : Told) (s : TierState) (o : Outcome) (found : Option ℕ) → entering told s ≡ None → s.coming ≡ [] → leaving told s ≡ found → Follows told s o (leave_or_idle told s o found)
unfolding leave_or_idle
follows_leave told s o None none empty is = Rests (record { none_enters = none; none_comes = empty; none_leaves = is })
follows_leave told s o (Some v) none empty is = follows_evict told s o v told.top o.uses none is (leaves_from told s v empty is) refl refl

follows_commit : (told : Told) (s : TierState) (o : Outcome) (found : Option ℕ) → entering told s ≡ None → first_bare s.coming ≡ None → first_coming s.coming ≡ found → Follows told s o (commit_or told s o found)
unfolding commit_or
follows_commit told s o None none bare is = follows_leave told s o (leaving told s) none (none_comes s.coming is) refl
follows_commit told s o (Some p) none bare is = Commits p none bare is

follows_bare : (told : Told) (s : TierState) (o : Outcome) (found : Option ℕ) → entering told s ≡ None → first_bare s.coming ≡ found → Follows told s o (fetch_or told s o found)
unfolding fetch_or
follows_bare told s o None none is = follows_commit told s o (first_coming s.coming) none is refl
follows_bare told s o (Some p) none is = follows_fetch told s o p (told.has p) o.fetched none is refl refl

follows_reserve : (told : Told) (s : TierState) (o : Outcome) (found : Option ℕ) → entering told s ≡ found → Follows told s o (reserve_or told s o found)
unfolding reserve_or
follows_reserve told s o None is = follows_bare told s o (first_bare s.coming) is refl
follows_reserve told s o (Some c) is = Reserves c (enters_from told s c is)

-- a turn follows one of the rules
pub follows : (told : Told) (s : TierState) (o : Outcome) → Follows told s o (ranked_turn_of told s o)
unfolding ranked_turn_of
follows told s o = follows_reserve told s o (entering told s) refl

-- ---- what follows a rule is the turn

entering_from : (told : Told) (s : TierState) (c : ℕ) → Enters told s c → entering told s ≡ Some c
unfolding entering fitting
entering_from told s c enters =
    cond-true (ltb (length s.coming) s.width) (fitting s (candidate told s)) None (lt-ltb (length s.coming) s.width enters.place)
    ∙ ap (fitting s) enters.chosen
    ∙ cond-true (leb (load s + size s c) s.budget) (Some c) None (le-leb (load s + size s c) s.budget enters.room)

when_reserved : (told : Told) (s : TierState) (o : Outcome) (c : ℕ) → entering told s ≡ Some c → ranked_turn_of told s o ≡ reserve_or told s o (Some c)
unfolding ranked_turn_of
when_reserved told s o c is = ap (reserve_or told s o) is

when_fetched : (told : Told) (s : TierState) (o : Outcome) (found : Option ℕ) → entering told s ≡ None → first_bare s.coming ≡ found → ranked_turn_of told s o ≡ fetch_or told s o found
unfolding ranked_turn_of reserve_or
when_fetched told s o found none is = ap (reserve_or told s o) none ∙ ap (fetch_or told s o) is

when_bare : (told : Told) (s : TierState) (o : Outcome) (p : ℕ) (has : Bool) (fetched : Fetched) → entering told s ≡ None → first_bare s.coming ≡ Some p → told.has p ≡ has → o.fetched ≡ fetched → ranked_turn_of told s o ≡ fetching has s p fetched
unfolding fetch_or
when_bare told s o p has fetched none bare there is =
    when_fetched told s o (Some p) none bare ∙ ap (λ (t : Bool). fetching t s p o.fetched) there ∙ ap (fetching has s p) is

when_committed : (told : Told) (s : TierState) (o : Outcome) (found : Option ℕ) → entering told s ≡ None → first_bare s.coming ≡ None → first_coming s.coming ≡ found → ranked_turn_of told s o ≡ commit_or told s o found
unfolding fetch_or
when_committed told s o found none bare is = when_fetched told s o None none bare ∙ ap (commit_or told s o) is

when_left : (told : Told) (s : TierState) (o : Outcome) (found : Option ℕ) → entering told s ≡ None → s.coming ≡ [] → leaving told s ≡ found → ranked_turn_of told s o ≡ leave_or_idle told s o found
unfolding commit_or first_bare first_coming
when_left told s o found none empty is = when_committed told s o None none (ap first_bare empty) (ap first_coming empty) ∙ ap (leave_or_idle told s o) is

when_victim : (told : Told) (s : TierState) (o : Outcome) (v : ℕ) (top : Bool) (uses : ℕ) → entering told s ≡ None → s.coming ≡ [] → leaving told s ≡ Some v → told.top ≡ top → o.uses ≡ uses → ranked_turn_of told s o ≡ evicting top s v uses
unfolding leave_or_idle
when_victim told s o v top uses none empty leaves is found =
    when_left told s o (Some v) none empty leaves ∙ ap (λ (t : Bool). evicting t s v o.uses) is ∙ ap (evicting top s v) found

when_evicted : (told : Told) (s : TierState) (o : Outcome) (v : ℕ) (top : Bool) → entering told s ≡ None → s.coming ≡ [] → leaving told s ≡ Some v → told.top ≡ top → (told.top ≡ true → o.uses ≡ 0) → paired (Evict v) (dropped s v) ≡ ranked_turn_of told s o
unfolding evicting
when_evicted told s o v false none empty leaves is unused = sym (when_victim told s o v false o.uses none empty leaves is refl)
when_evicted told s o v true none empty leaves is unused = sym (when_victim told s o v true 0 none empty leaves is (unused is))

-- what follows a rule is the turn
pub followed-is : (told : Told) (s : TierState) (o : Outcome) (x : Turn × TierState) → Follows told s o x → x ≡ ranked_turn_of told s o
unfolding reserve_or commit_or leave_or_idle fetching evicting
followed-is told s o x (Reserves c enters) = sym (when_reserved told s o c (entering_from told s c enters))
followed-is told s o x (Gets p body none bare has is) = sym (when_bare told s o p true (Came body) none bare has is)
followed-is told s o x (Loses p none bare has) = sym (when_bare told s o p false o.fetched none bare has refl)
followed-is told s o x (Fails p none bare has is) = sym (when_bare told s o p true Failed none bare has is)
followed-is told s o x (Breaks p fault none bare has is) = sym (when_bare told s o p true (Broken fault) none bare has is)
followed-is told s o x (Commits p none bare first) = sym (when_committed told s o (Some p) none bare first)
followed-is told s o x (Evicts v none victim leaves unused) = when_evicted told s o v told.top none leaves.none_comes victim refl unused
followed-is told s o x (Keeps v uses none victim leaves top is) = sym (when_victim told s o v true (suc uses) none leaves.none_comes victim top is)
followed-is told s o x (Rests rest) = sym (when_left told s o None rest.none_enters rest.none_comes rest.none_leaves)

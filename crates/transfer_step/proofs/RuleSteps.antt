-- Each step of a turn, against the rules.
use Rattle.std.proofs.Common.{◌≡◌, ℕ, suc, ◌+◌, ◌-◌, ◌<◌, ◌≤◌, Bool, true, false, not, ◌&&◌, ◌||◌, cond, leb, ltb, [], length, zero, Option, Some, None, MatchOption, Result, Ok, Err, IfOk, IfSome, refl, sym, ap, subst, ◌∙◌, arith}
use Rattle.std.specs.Option.{option_and_then}
use Rattle.std.proofs.lemmas.Bool.{cond_both, cond-true, cond-false, leb-true, le-leb, ltb-true, lt-ltb}
use Rattle.std.proofs.lemmas.Option.{same_Some}
use Rattle.file_model.specs.declared.faults.FileFault.{FileFault}
use Rattle.file_model.specs.Lists.{SeenBody}
use Rattle.token_words.specs.declared.keeping.TheConstants.{LAST_EPOCH}
use Rattle.token_words.specs.declared.answers.Evict.TheVariants as evicted
use Rattle.tier_model.specs.declared.turns.Abort.TheVariants as reasons
use Rattle.tier_model.specs.declared.turns.Turn.{Turn}
use Rattle.tier_model.specs.declared.turns.Turn.TheVariants.{Reserve, Evict, Kept, Got, Lost, Fault, Changed, Commit, Idle}
use Rattle.tier_model.specs.Places.{first_coming, first_bare, Needs}
use Rattle.tier_model.specs.Tiers.{TierState, count, size, load, pinned_bytes, places, body_at, IsTier}
use Rattle.tier_model.specs.Changes.{reserved, arrived, aborted, committed, dropped, passed_over, calmed}
use Rattle.tier_model.specs.Choices.{Told, is_missing, candidate, victim}
use Rattle.tier_model.specs.Turns.{Outcome, fetched_in, uses_in, outcome_in, paired, fitting, entering, leaving, fetching, evicting, leave_or_idle, commit_or, fetch_or, reserve_or, ranked_turn_of, IsRankedTurn}
use Rattle.tier_laws.specs.Chosen.{candidate-is, candidate_is_highest, IsVictim, victim_is_lowest}
use Rattle.tier_laws.specs.ComingLaws.{bare_comes}
use Rattle.tier_laws.specs.BodyLaws.{not_there_is_away, away_is_unmarked}
use Rattle.tier_laws.specs.Follows.{enters_from}
use Rattle.tier_laws.specs.TurnLaws.{body_arrived}
use Rattle.transfer_step.specs.TurnWords.{sought}

-- ---- the candidate

none_fits : (missing room has top : Bool) → (missing ≡ true → has ≡ false) → (missing && (room && (has && top))) ≡ false
none_fits false room has top none = refl
none_fits true false has top none = refl
none_fits true true has top none = rw (none refl) refl

-- there is none where the tier below has no missing patch
pub none_served : (told : Told) (s : TierState) → ((p : ℕ) → p < count s → is_missing s p ≡ true → told.has p ≡ false) → None ≡ candidate told s
none_served told s none =
    candidate-is told s None
    (λ p within. none_fits (is_missing s p) (leb (size s p) (s.budget - pinned_bytes s)) (told.has p) (not told.top || ltb (told.epochs p) LAST_EPOCH) (none p within))

pub fitting_there : (s : TierState) (p n : ℕ) → n ≡ size s p → load s ≤ s.budget → n ≤ s.budget - load s → Some p ≡ fitting s (Some p)
unfolding fitting
fitting_there s p n is fits room = sym (cond-true (leb (load s + size s p) s.budget) (Some p) None (le-leb (load s + size s p) s.budget (omega arith)))

pub fitting_full : (s : TierState) (p n : ℕ) → n ≡ size s p → load s ≤ s.budget → s.budget - load s < n → None ≡ fitting s (Some p)
unfolding fitting
fitting_full s p n is fits full =
    cond_both (leb (load s + size s p) s.budget) (Some p) None (λ (o : Option ℕ). None ≡ o)
    (λ room. let small = leb-true (load s + size s p) s.budget room in absurd (omega arith))
    (λ never. refl)

pub fitting_none : (s : TierState) → None ≡ fitting s None
unfolding fitting
fitting_none s = refl

pub sought_there : (told : Told) (s : TierState) → length s.coming < s.width → candidate told s ≡ sought told s
unfolding sought
sought_there told s place = sym (cond-true (ltb (length s.coming) s.width) (candidate told s) None (lt-ltb (length s.coming) s.width place))

pub sought_full : (told : Told) (s : TierState) → s.width ≤ length s.coming → None ≡ sought told s
unfolding sought
sought_full told s full =
    cond_both (ltb (length s.coming) s.width) (candidate told s) None (λ (o : Option ℕ). None ≡ o)
    (λ place. let less = ltb-true (length s.coming) s.width place in absurd (omega arith))
    (λ never. refl)

sought_is : (told : Told) (s : TierState) (c : ℕ) → sought told s ≡ Some c → candidate told s ≡ Some c
unfolding sought
sought_is told s c is =
    cond_both (ltb (length s.coming) s.width) (candidate told s) None (λ (o : Option ℕ). o ≡ Some c → candidate told s ≡ Some c)
    (λ place same. same)
    (λ full none. absurd (cc)) is

pub sought_within : (told : Told) (s : TierState) (o : Option ℕ) → o ≡ sought told s → MatchOption o (Unit {0}) (λ p. p < count s)
sought_within told s None is = tt
sought_within told s (Some c) is = (candidate_is_highest told s c (sought_is told s c (sym is))).within

pub entering_is : (told : Told) (s : TierState) → fitting s (sought told s) ≡ entering told s
unfolding entering sought fitting
entering_is told s =
    cond_both (ltb (length s.coming) s.width) (candidate told s) None (λ (o : Option ℕ). fitting s o ≡ cond (ltb (length s.coming) s.width) (fitting s (candidate told s)) None)
    (λ place. sym (cond-true (ltb (length s.coming) s.width) (fitting s (candidate told s)) None place))
    (λ full. sym (cond-false (ltb (length s.coming) s.width) (fitting s (candidate told s)) None full))

pub entering_by : (told : Told) (s later : TierState) (ahead o found : Option ℕ) → later ≡ s → ahead ≡ sought told s → o ≡ fitting later ahead → o ≡ found → entering told s ≡ found
entering_by told s later ahead o found same sought is fits =
    sym (entering_is told s) ∙ ap (fitting s) (sym sought) ∙ ap (λ (t : TierState). fitting t ahead) (sym same) ∙ sym is ∙ fits

-- ---- the candidate comes

pub reserve_needs : (told : Told) (s : TierState) (c : ℕ) → IsTier s → entering told s ≡ Some c → Needs s.width s.pinned (places s) (Reserve c)
reserve_needs told s c tier is =
    let enters = enters_from told s c is in
    let within = enters.is_candidate.within in
    let sized = tier.sized.held in
    (enters.place, away_is_unmarked s.held c (not_there_is_away s.held c (omega arith) enters.is_candidate.eligible.not_held), enters.is_candidate.eligible.not_coming)

pub reserve_room : (told : Told) (s : TierState) (c : ℕ) → entering told s ≡ Some c → load s + size s c ≤ s.budget
reserve_room told s c is = (enters_from told s c is).room

pub reserve_turn : (told : Told) (s after : TierState) (c : ℕ) → entering told s ≡ Some c → after ≡ reserved s c → IsRankedTurn told s (Reserve c) after
unfolding ranked_turn_of reserve_or
reserve_turn told s after c is state = ap (paired (Reserve c)) state ∙ sym (ap (reserve_or told s (outcome_in (Reserve c) after)) is)

-- ---- a body is fetched

when_bare : (told : Told) (s : TierState) (o : Outcome) (p : ℕ) → entering told s ≡ None → first_bare s.coming ≡ Some p → ranked_turn_of told s o ≡ fetching (told.has p) s p o.fetched
unfolding ranked_turn_of reserve_or fetch_or
when_bare told s o p none bare = ap (reserve_or told s o) none ∙ ap (fetch_or told s o) bare

pub fetch_turn : {E : Type 0} (told : Told) (s after : TierState) (p : ℕ) (r : Result Turn E) → entering told s ≡ None → first_bare s.coming ≡ Some p → IfOk r (λ a. paired a after ≡ fetching (told.has p) s p (fetched_in a after)) → IfOk r (λ a. IsRankedTurn told s a after)
fetch_turn told s after p (Ok a) none bare is = is ∙ sym (when_bare told s (outcome_in a after) p none bare)
fetch_turn told s after p (Err e) none bare is = tt

-- what holds of what is there
pub some_at : (P : ℕ → Type 0) (o : Option ℕ) (p : ℕ) → o ≡ Some p → IfSome o P → P p
some_at P None p is holds = absurd (cc)
some_at P (Some q) p is holds = subst P (same_Some q p is) holds

pub got_body : (s after : TierState) (p : ℕ) (body : SeenBody) → IsTier s → first_bare s.coming ≡ Some p → body.patch ≡ p → after ≡ arrived s body.patch body → body_at after p ≡ body
got_body s after p body tier bare patch state =
    ap (λ (t : TierState). body_at t p) (state ∙ ap (λ (n : ℕ). arrived s n body) patch) ∙ body_arrived s p body tier (bare_comes s.coming p bare)

pub got_answer : (has : Bool) (s after : TierState) (p : ℕ) (body : SeenBody) → false ≡ not has → IsTier s → first_bare s.coming ≡ Some p → body.patch ≡ p → after ≡ arrived s body.patch body → paired (Got p) after ≡ fetching has s p (fetched_in (Got p) after)
unfolding fetching fetched_in
got_answer true s after p body there tier bare patch state =
    ap (paired (Got p)) (state ∙ ap (λ (n : ℕ). arrived s n body) patch ∙ ap (arrived s p) (sym (got_body s after p body tier bare patch state)))
got_answer false s after p body there tier bare patch state = absurd (cc)

pub lost_answer : (has : Bool) (s after : TierState) (p : ℕ) → true ≡ not has → after ≡ aborted s p reasons.Lost → paired (Lost p) after ≡ fetching has s p (fetched_in (Lost p) after)
unfolding fetching
lost_answer false s after p away state = ap (paired (Lost p)) state
lost_answer true s after p away state = absurd (cc)

pub fault_answer : (has : Bool) (s after : TierState) (p : ℕ) → false ≡ not has → after ≡ aborted s p reasons.Fault → paired (Fault p) after ≡ fetching has s p (fetched_in (Fault p) after)
unfolding fetching fetched_in
fault_answer true s after p there state = ap (paired (Fault p)) state
fault_answer false s after p there state = absurd (cc)

pub changed_answer : (has : Bool) (s after : TierState) (p : ℕ) (fault : FileFault) → false ≡ not has → after ≡ aborted s p (reasons.Changed fault) → paired (Changed p fault) after ≡ fetching has s p (fetched_in (Changed p fault) after)
unfolding fetching fetched_in
changed_answer true s after p fault there state = ap (paired (Changed p fault)) state
changed_answer false s after p fault there state = absurd (cc)

-- ---- a patch is held

when_all_came : (told : Told) (s : TierState) (o : Outcome) → entering told s ≡ None → first_bare s.coming ≡ None → ranked_turn_of told s o ≡ commit_or told s o (first_coming s.coming)
unfolding ranked_turn_of reserve_or fetch_or
when_all_came told s o none bare = ap (reserve_or told s o) none ∙ ap (fetch_or told s o) bare

pub commit_turn : (told : Told) (s after : TierState) (p : ℕ) → entering told s ≡ None → first_bare s.coming ≡ None → first_coming s.coming ≡ Some p → after ≡ committed s p → IsRankedTurn told s (Commit p) after
unfolding commit_or
commit_turn told s after p none bare first state =
    ap (paired (Commit p)) state ∙ sym (when_all_came told s (outcome_in (Commit p) after) none bare ∙ ap (commit_or told s (outcome_in (Commit p) after)) first)

-- ---- a patch leaves

pub gone_answer : (has : Bool) (s after : TierState) (v : ℕ) → after ≡ dropped s v → paired (Evict v) after ≡ evicting has s v (uses_in (Evict v))
unfolding evicting uses_in
gone_answer true s after v state = ap (paired (Evict v)) state
gone_answer false s after v state = ap (paired (Evict v)) state

pub kept_answer : (has : Bool) (s after : TierState) (v uses : ℕ) → 1 ≤ uses → (has ≡ false → evicted.Kept uses ≡ evicted.Gone) → after ≡ passed_over s v → paired (Kept v uses) after ≡ evicting has s v (uses_in (Kept v uses))
unfolding evicting uses_in
kept_answer true s after v zero some gone state = absurd (omega arith)
kept_answer true s after v (suc uses) some gone state = ap (paired (Kept v (suc uses))) state
kept_answer false s after v uses some gone state = let never = gone refl in absurd (cc)

-- a victim is that for some candidate
pub victim_of : (s : TierState) (ahead : Option ℕ) (v : ℕ) → option_and_then (victim s) ahead ≡ Some v → (c : ℕ) × IsVictim s c v
victim_of s None v is = absurd (cc)
victim_of s (Some c) v is = (c, victim_is_lowest s c v is)

when_left : (told : Told) (s : TierState) (o : Outcome) → entering told s ≡ None → s.coming ≡ [] → ranked_turn_of told s o ≡ leave_or_idle told s o (leaving told s)
unfolding commit_or first_bare first_coming
when_left told s o none empty = when_all_came told s o none (ap first_bare empty) ∙ ap (λ cs. commit_or told s o (first_coming cs)) empty

left_by : (told : Told) (s after : TierState) (a : Turn) (found : Option ℕ) → entering told s ≡ None → s.coming ≡ [] → leaving told s ≡ found → MatchOption found (paired a after ≡ paired Idle (calmed s)) (λ p. paired a after ≡ evicting told.top s p (uses_in a)) → IsRankedTurn told s a after
unfolding leave_or_idle
left_by told s after a None none empty found is = is ∙ sym (when_left told s (outcome_in a after) none empty ∙ ap (leave_or_idle told s (outcome_in a after)) found)
left_by told s after a (Some v) none empty found is = is ∙ sym (when_left told s (outcome_in a after) none empty ∙ ap (leave_or_idle told s (outcome_in a after)) found)

-- where nothing comes the candidate is sought
pub leaving_is : (told : Told) (s : TierState) → IsTier s → s.coming ≡ [] → leaving told s ≡ option_and_then (victim s) (sought told s)
unfolding leaving
leaving_is told s tier empty =
    ap (option_and_then (victim s)) (sought_there told s (let few = ap (λ cs. length cs) empty in let wide = tier.wide.some_come in omega arith))

pub leave_turn : (told : Told) (s after : TierState) (a : Turn) (ahead : Option ℕ) → IsTier s → entering told s ≡ None → s.coming ≡ [] → ahead ≡ sought told s → MatchOption (option_and_then (victim s) ahead) (paired a after ≡ paired Idle (calmed s)) (λ p. paired a after ≡ evicting told.top s p (uses_in a)) → IsRankedTurn told s a after
leave_turn told s after a ahead tier none empty is left =
    left_by told s after a (option_and_then (victim s) ahead) none empty (leaving_is told s tier empty ∙ ap (option_and_then (victim s)) (sym is)) left

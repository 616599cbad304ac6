-- What each change of a tier does to stages, and to the patches that may be reserved.
use Rattle.std.proofs.Common.{◌≡◌, ◌≢◌, ℕ, ◌+◌, ◌<◌, ◌≤◌, Bool, true, false, ◌||◌, cond, eqb, List, [], length, Some, None, is_some, refl, sym, ap, subst, ◌∙◌, arith, inl, inr}
use Rattle.std.specs.Prelude.{slice_index_or, slice_set}
use Rattle.std.proofs.lemmas.Bool.{cases_eq, both_ways, cond-true, cond-false, eq-eqb, ne_eqb, or_from, or_right, false_from_ne_true}
use Rattle.std.proofs.lemmas.List.{get_or-set_same, get_or-set_other}
use Rattle.file_model.specs.Lists.{SeenBody}
use Rattle.file_model.specs.declared.faults.FileFault.{FileFault}
use Rattle.tier_model.specs.declared.turns.Abort.{Abort}
use Rattle.tier_model.specs.declared.turns.Abort.TheVariants as reasons
use Rattle.tier_model.specs.declared.turns.Coming.{Coming}
use Rattle.tier_model.specs.Places.{is_marked, is_coming, is_full, first_coming, first_bare}
use Rattle.tier_model.specs.Tiers.{TierState, count, kept_wish, is_held, IsTier}
use Rattle.tier_model.specs.Changes.{reserved, arrived, aside_after, aborted, committed, dropped, passed_over}
use Rattle.tier_model.specs.Ranks.{outranks}
use Rattle.tier_model.specs.Choices.{Told}
use Rattle.tier_laws.specs.ComingLaws.{full_comes, nothing_comes, reserved_comes, reserved_others, reserved_full, arrived_comes, arrived_full, arrived_others, gone_comes, gone_others, gone_full, gone_full_others, first_comes, bare_comes, bare_not_full, all_are_full}
use Rattle.tier_laws.specs.BodyLaws.{away_not_there}
use Rattle.tier_laws.specs.RankLaws.{outranks_is_ranking, outranks_never_itself}
use Rattle.tier_laws.specs.TierLaws.{comes_within}
use Rattle.tier_laws.specs.Chosen.{IsEligible}
use Rattle.tier_laws.specs.Follows.{Enters, Leaves}
use Rattle.settling_laws.specs.Stages.{Stage, Fixed, Free, Full, Bare, Away, stage_by, is_fixed, stage, weight_at}
use Rattle.settling_laws.specs.Underway.{AreSpentAbove, IsUnderway}
use Rattle.settling_laws.specs.WeightLaws.{stage_is, stage_same, away_to_bare, bare_to_full, bare_to_away, full_to_held, free_to_away, free_to_fixed, underway-step}
use Rattle.settling_laws.specs.EligibleLaws.{eligible-reserved, eligible-arrived, eligible-aborted, eligible-committed, eligible-dropped, eligible-passed_over}

-- ---- the candidate comes

-- with the patch that is reserved
abbrev pub spent_with : ℕ → (ℕ → Bool) → ℕ → Bool
spent_with c spent p = cond (eqb p c) true (spent p)

pub spent_here : (c : ℕ) (spent : ℕ → Bool) → spent_with c spent c ≡ true
spent_here c spent = cond-true (eqb c c) true (spent c) (eq-eqb c c refl)

pub spent_other : (c : ℕ) (spent : ℕ → Bool) (q : ℕ) → q ≢ c → spent_with c spent q ≡ spent q
spent_other c spent q ne = cond-false (eqb q c) true (spent q) (ne_eqb q c ne)

-- no patch that may be reserved is spent
eligible_unspent : (told : Told) (s : TierState) (spent : ℕ → Bool) (c : ℕ) → AreSpentAbove told s spent → c < count s → IsEligible told s c → spent c ≡ false
eligible_unspent told s spent c above within eligible =
    false_from_ne_true (spent c) (λ is. both_ways (outranks (kept_wish s) c c) (outranks_never_itself (kept_wish s) c) (above c c is within eligible))

pub above-reserved : (told : Told) (s : TierState) (spent : ℕ → Bool) (c : ℕ) → Enters told s c → AreSpentAbove told s spent → AreSpentAbove told (reserved s c) (spent_with c spent)
unfolding reserved
above-reserved told s spent c enters above p q is within eligible =
    let before = eligible-reserved told s c q eligible in
    elim (cases_eq p c) [
      | inl same ↦ subst (λ (n : ℕ). outranks (kept_wish s) n q ≡ true) (sym same) (enters.is_candidate.highest q within before.1 before.0)
      | inr ne ↦ above p q (sym (spent_other c spent p ne) ∙ is) within before.1
    ]

not_full : (s : TierState) (p : ℕ) → is_coming s.coming p ≡ false → is_full s.coming p ≡ false
not_full s p away = false_from_ne_true (is_full s.coming p) (λ is. both_ways (is_coming s.coming p) away (full_comes s.coming p is))

stage-reserved_here : (told : Told) (s : TierState) (c : ℕ) → Enters told s c → (stage (reserved s c) c ≡ Bare) × (stage s c ≡ Away)
unfolding reserved stage_by
stage-reserved_here told s c enters =
    let eligible = enters.is_candidate.eligible in
    let bare = not_full s c eligible.not_coming in (
      stage_is (reserved s c) c false (is_fixed s c) true false eligible.not_held refl (reserved_comes s.coming c) (reserved_full s.coming c c ∙ bare),
      stage_is s c false (is_fixed s c) false false eligible.not_held refl eligible.not_coming bare,
    )

stage-reserved_other : (s : TierState) (c q : ℕ) → q ≢ c → stage (reserved s c) q ≡ stage s q
unfolding reserved
stage-reserved_other s c q ne = stage_same s (reserved s c) q refl refl (reserved_others s.coming c q ne) (reserved_full s.coming c q)

count-reserved : (s : TierState) (c : ℕ) → count (reserved s c) ≡ count s
unfolding reserved
count-reserved s c = refl

both_weights : (b c : Bool) (x y : Stage) → b ≡ c → x ≡ y → weight_at b x ≡ weight_at c y
both_weights b c x y same at = ap (λ (d : Bool). weight_at d x) same ∙ ap (weight_at c) at

-- the weight falls along stages and marks that are known
falls : (later spent a b : Bool) (new old x y : Stage) → later ≡ a → spent ≡ b → new ≡ x → old ≡ y → weight_at a x + 1 ≤ weight_at b y → weight_at later new + 1 ≤ weight_at spent old
falls later spent a b new old x y l s n o less =
    let now = both_weights later a new x l n in
    let before = both_weights spent b old y s o in
    omega arith

pub underway-reserved : (told : Told) (s : TierState) (c turns : ℕ) → Enters told s c → IsUnderway told s turns → IsUnderway told (reserved s c) (turns + 1)
underway-reserved told s c turns enters way =
    let candidate = enters.is_candidate in
    let unspent = eligible_unspent told s way.spent c way.above candidate.within candidate.eligible in
    let stages = stage-reserved_here told s c enters in
    underway-step told s (reserved s c) way.spent (spent_with c way.spent) turns c (count-reserved s c) candidate.within
    (above-reserved told s way.spent c enters way.above)
    (λ q ne. both_weights (spent_with c way.spent q) (way.spent q) (stage (reserved s c) q) (stage s q) (spent_other c way.spent q ne) (stage-reserved_other s c q ne))
    (falls (spent_with c way.spent c) (way.spent c) true (way.spent c) (stage (reserved s c) c) (stage s c) Bare Away (spent_here c way.spent) refl stages.0 stages.1 (away_to_bare (way.spent c) unspent))
    way.bound

-- ---- its body comes

pub above-arrived : (told : Told) (s : TierState) (spent : ℕ → Bool) (p : ℕ) (body : SeenBody) → AreSpentAbove told s spent → AreSpentAbove told (arrived s p body) spent
unfolding arrived
above-arrived told s spent p body above r q is within eligible = above r q is within (eligible-arrived told s p body q eligible)

-- a patch that comes without its body isn't held
stage-bare : (s : TierState) (p : ℕ) → IsTier s → first_bare s.coming ≡ Some p → stage s p ≡ Bare
unfolding stage_by
stage-bare s p tier bare =
    let comes = bare_comes s.coming p bare in
    stage_is s p false (is_fixed s p) true false (away_not_there s.held p (tier.coming.away p comes)) refl comes (bare_not_full s.coming p tier.coming.apart bare)

stage-arrived_here : (s : TierState) (p : ℕ) (body : SeenBody) → IsTier s → first_bare s.coming ≡ Some p → stage (arrived s p body) p ≡ Full
unfolding arrived stage_by
stage-arrived_here s p body tier bare =
    let comes = bare_comes s.coming p bare in
    stage_is (arrived s p body) p false (is_fixed s p) true true (away_not_there s.held p (tier.coming.away p comes)) refl (arrived_comes p s.coming p ∙ comes) (arrived_full p s.coming comes)

stage-arrived_other : (s : TierState) (p : ℕ) (body : SeenBody) (q : ℕ) → q ≢ p → stage (arrived s p body) q ≡ stage s q
unfolding arrived
stage-arrived_other s p body q ne = stage_same s (arrived s p body) q refl refl (arrived_comes p s.coming q) (arrived_others p s.coming q ne)

count-arrived : (s : TierState) (p : ℕ) (body : SeenBody) → count (arrived s p body) ≡ count s
unfolding arrived
count-arrived s p body = refl

pub underway-arrived : (told : Told) (s : TierState) (p : ℕ) (body : SeenBody) (turns : ℕ) → IsTier s → first_bare s.coming ≡ Some p → IsUnderway told s turns → IsUnderway told (arrived s p body) (turns + 1)
underway-arrived told s p body turns tier bare way =
    underway-step told s (arrived s p body) way.spent way.spent turns p (count-arrived s p body) (comes_within s p tier (bare_comes s.coming p bare))
    (above-arrived told s way.spent p body way.above)
    (λ q ne. ap (weight_at (way.spent q)) (stage-arrived_other s p body q ne))
    (falls (way.spent p) (way.spent p) (way.spent p) (way.spent p) (stage (arrived s p body) p) (stage s p) Full Bare refl refl (stage-arrived_here s p body tier bare) (stage-bare s p tier bare) (bare_to_full (way.spent p)))
    way.bound

-- ---- it doesn't come

-- a patch that the tier below hasn't isn't eligible
pub lost_is_never : (told : Told) (s : TierState) (p : ℕ) → told.has p ≡ false → IsEligible told (aborted s p reasons.Lost) p → ⊥
lost_is_never told s p has is = both_ways (told.has p) has is.has

-- nor is one that was put aside
fault_is_never : (told : Told) (s : TierState) (p : ℕ) → p < length s.aside → IsEligible told (aborted s p reasons.Fault) p → ⊥
unfolding aborted aside_after
fault_is_never told s p within is = both_ways (is_marked (slice_set s.aside p true) p) is.not_aside (get_or-set_same s.aside p true false within)

changed_is_never : (told : Told) (s : TierState) (p : ℕ) (fault : FileFault) → p < length s.aside → IsEligible told (aborted s p (reasons.Changed fault)) p → ⊥
unfolding aborted aside_after
changed_is_never told s p fault within is = both_ways (is_marked (slice_set s.aside p true) p) is.not_aside (get_or-set_same s.aside p true false within)

pub above-aborted : (told : Told) (s : TierState) (spent : ℕ → Bool) (p : ℕ) (why : Abort) → (IsEligible told (aborted s p why) p → ⊥) → AreSpentAbove told s spent → AreSpentAbove told (aborted s p why) spent
unfolding aborted
above-aborted told s spent p why never above r q is within eligible =
    above r q is within (eligible-aborted told s p why q (λ same. never (subst (IsEligible told (aborted s p why)) same eligible)) eligible)

stage-aborted_here : (s : TierState) (p : ℕ) (why : Abort) → IsTier s → first_bare s.coming ≡ Some p → stage (aborted s p why) p ≡ Away
unfolding aborted stage_by
stage-aborted_here s p why tier bare =
    stage_is (aborted s p why) p false (is_fixed s p) false false (away_not_there s.held p (tier.coming.away p (bare_comes s.coming p bare))) refl (gone_comes p s.coming) (gone_full p s.coming)

stage-aborted_other : (s : TierState) (p : ℕ) (why : Abort) (q : ℕ) → q ≢ p → stage (aborted s p why) q ≡ stage s q
unfolding aborted
stage-aborted_other s p why q ne = stage_same s (aborted s p why) q refl refl (gone_others p s.coming q ne) (gone_full_others p s.coming q ne)

count-aborted : (s : TierState) (p : ℕ) (why : Abort) → count (aborted s p why) ≡ count s
unfolding aborted
count-aborted s p why = refl

underway-aborted : (told : Told) (s : TierState) (p : ℕ) (why : Abort) (turns : ℕ) → IsTier s → first_bare s.coming ≡ Some p → (IsEligible told (aborted s p why) p → ⊥) → IsUnderway told s turns → IsUnderway told (aborted s p why) (turns + 1)
underway-aborted told s p why turns tier bare never way =
    underway-step told s (aborted s p why) way.spent way.spent turns p (count-aborted s p why) (comes_within s p tier (bare_comes s.coming p bare))
    (above-aborted told s way.spent p why never way.above)
    (λ q ne. ap (weight_at (way.spent q)) (stage-aborted_other s p why q ne))
    (falls (way.spent p) (way.spent p) (way.spent p) (way.spent p) (stage (aborted s p why) p) (stage s p) Away Bare refl refl (stage-aborted_here s p why tier bare) (stage-bare s p tier bare) (bare_to_away (way.spent p)))
    way.bound

aside_within : (s : TierState) (p : ℕ) → IsTier s → first_bare s.coming ≡ Some p → p < length s.aside
aside_within s p tier bare = let within = comes_within s p tier (bare_comes s.coming p bare) in let sized = tier.sized.aside in omega arith

pub underway-lost : (told : Told) (s : TierState) (p turns : ℕ) → IsTier s → first_bare s.coming ≡ Some p → told.has p ≡ false → IsUnderway told s turns → IsUnderway told (aborted s p reasons.Lost) (turns + 1)
underway-lost told s p turns tier bare has way = underway-aborted told s p reasons.Lost turns tier bare (lost_is_never told s p has) way

pub underway-fault : (told : Told) (s : TierState) (p turns : ℕ) → IsTier s → first_bare s.coming ≡ Some p → IsUnderway told s turns → IsUnderway told (aborted s p reasons.Fault) (turns + 1)
underway-fault told s p turns tier bare way = underway-aborted told s p reasons.Fault turns tier bare (fault_is_never told s p (aside_within s p tier bare)) way

pub underway-changed : (told : Told) (s : TierState) (p : ℕ) (fault : FileFault) (turns : ℕ) → IsTier s → first_bare s.coming ≡ Some p → IsUnderway told s turns → IsUnderway told (aborted s p (reasons.Changed fault)) (turns + 1)
underway-changed told s p fault turns tier bare way = underway-aborted told s p (reasons.Changed fault) turns tier bare (changed_is_never told s p fault (aside_within s p tier bare)) way

-- ---- it is held

-- the first patch that comes, where all have their bodies
pub record IsReady (s : TierState) (p : ℕ) : Type 0 where
  pub comes : is_coming s.coming p ≡ true
  pub full : is_full s.coming p ≡ true
  pub away : is_held s p ≡ false
  pub there : is_some (slice_index_or s.came p None) ≡ true
  pub within : p < count s

pub ready_from : (s : TierState) (p : ℕ) → IsTier s → first_bare s.coming ≡ None → first_coming s.coming ≡ Some p → IsReady s p
ready_from s p tier bare first =
    let comes = first_comes s.coming p first in
    let full = all_are_full s.coming p bare comes in
    record {
      comes = comes;
      full = full;
      away = away_not_there s.held p (tier.coming.away p comes);
      there = sym (tier.coming.arrived p) ∙ full;
      within = comes_within s p tier comes;
    }

pub held-committed : (s : TierState) (p : ℕ) → IsTier s → IsReady s p → is_held (committed s p) p ≡ true
unfolding committed
held-committed s p tier ready =
    ap (λ o. is_some o) (get_or-set_same s.held p (slice_index_or s.came p None) None (let within = ready.within in let sized = tier.sized.held in omega arith)) ∙ ready.there

pub above-committed : (told : Told) (s : TierState) (spent : ℕ → Bool) (p : ℕ) → IsTier s → IsReady s p → AreSpentAbove told s spent → AreSpentAbove told (committed s p) spent
unfolding committed
above-committed told s spent p tier ready above r q is within eligible =
    above r q is within (eligible-committed told s p q
    (λ same. both_ways (is_held (committed s p) p) (subst (λ (n : ℕ). is_held (committed s p) n ≡ false) same eligible.not_held) (held-committed s p tier ready)) eligible)

stage-committed_here : (s : TierState) (p : ℕ) → IsTier s → IsReady s p → (stage (committed s p) p ≡ stage_by true (is_fixed s p) false false) × (stage s p ≡ Full)
unfolding committed stage_by
stage-committed_here s p tier ready = (
  stage_is (committed s p) p true (is_fixed s p) false false (held-committed s p tier ready) refl (gone_comes p s.coming) (gone_full p s.coming),
  stage_is s p false (is_fixed s p) true true ready.away refl ready.comes ready.full,
)

stage-committed_other : (s : TierState) (p q : ℕ) → q ≢ p → stage (committed s p) q ≡ stage s q
unfolding committed
stage-committed_other s p q ne = stage_same s (committed s p) q (ap (λ o. is_some o) (get_or-set_other s.held p q (slice_index_or s.came p None) None ne)) refl (gone_others p s.coming q ne) (gone_full_others p s.coming q ne)

count-committed : (s : TierState) (p : ℕ) → count (committed s p) ≡ count s
unfolding committed
count-committed s p = refl

pub underway-committed : (told : Told) (s : TierState) (p turns : ℕ) → IsTier s → first_bare s.coming ≡ None → first_coming s.coming ≡ Some p → IsUnderway told s turns → IsUnderway told (committed s p) (turns + 1)
underway-committed told s p turns tier bare first way =
    let ready = ready_from s p tier bare first in
    let stages = stage-committed_here s p tier ready in
    underway-step told s (committed s p) way.spent way.spent turns p (count-committed s p) ready.within
    (above-committed told s way.spent p tier ready way.above)
    (λ q ne. ap (weight_at (way.spent q)) (stage-committed_other s p q ne))
    (falls (way.spent p) (way.spent p) (way.spent p) (way.spent p) (stage (committed s p) p) (stage s p) (stage_by true (is_fixed s p) false false) Full refl refl stages.0 stages.1 (full_to_held (way.spent p) (is_fixed s p)))
    way.bound

-- ---- it leaves, or is passed over

-- the victim isn't spent, since the candidate outranks it
pub victim_unspent : (told : Told) (s : TierState) (spent : ℕ → Bool) (v : ℕ) → AreSpentAbove told s spent → Leaves told s v → spent v ≡ false
victim_unspent told s spent v above leaves =
    let candidate = leaves.is_candidate in
    false_from_ne_true (spent v) (λ is. both_ways (outranks (kept_wish s) leaves.ahead v)
    ((outranks_is_ranking (kept_wish s)).one_way v leaves.ahead (above v leaves.ahead is candidate.within candidate.eligible)) leaves.is_victim.may.below)

pub nothing_there : (s : TierState) (q : ℕ) → s.coming ≡ [] → (is_coming s.coming q ≡ false) × (is_full s.coming q ≡ false)
nothing_there s q none =
    let away = false_from_ne_true (is_coming s.coming q) (λ comes. nothing_comes q (subst (λ (cs : List Coming). is_coming cs q ≡ true) none comes)) in
    (away, not_full s q away)

pub above-dropped : (told : Told) (s : TierState) (spent : ℕ → Bool) (v : ℕ) → Leaves told s v → AreSpentAbove told s spent → AreSpentAbove told (dropped s v) spent
unfolding dropped
above-dropped told s spent v leaves above r q is within eligible =
    let candidate = leaves.is_candidate in
    elim (cases_eq q v) [
      | inl same ↦ subst (λ (n : ℕ). outranks (kept_wish s) r n ≡ true) (sym same)
          ((outranks_is_ranking (kept_wish s)).chain r leaves.ahead v (above r leaves.ahead is candidate.within candidate.eligible) leaves.is_victim.may.below)
      | inr ne ↦ above r q is within (eligible-dropped told s v q ne eligible)
    ]

stage-victim : (told : Told) (s : TierState) (v : ℕ) → Leaves told s v → stage s v ≡ Free
unfolding stage_by
stage-victim told s v leaves =
    let may = leaves.is_victim.may in
    let none = nothing_there s v leaves.none_comes in
    stage_is s v true false false false may.held (or_from (is_marked s.pinned v) (is_marked s.passed v) may.not_pinned may.not_passed) none.0 none.1

stage-dropped_here : (told : Told) (s : TierState) (v : ℕ) → IsTier s → Leaves told s v → stage (dropped s v) v ≡ Away
unfolding dropped stage_by
stage-dropped_here told s v tier leaves =
    let none = nothing_there s v leaves.none_comes in
    stage_is (dropped s v) v false (is_fixed s v) false false
    (ap (λ o. is_some o) (get_or-set_same s.held v None None (let within = leaves.is_victim.within in let sized = tier.sized.held in omega arith))) refl none.0 none.1

stage-dropped_other : (s : TierState) (v q : ℕ) → q ≢ v → stage (dropped s v) q ≡ stage s q
unfolding dropped
stage-dropped_other s v q ne = stage_same s (dropped s v) q (ap (λ o. is_some o) (get_or-set_other s.held v q None None ne)) refl refl refl

count-dropped : (s : TierState) (v : ℕ) → count (dropped s v) ≡ count s
unfolding dropped
count-dropped s v = refl

pub underway-dropped : (told : Told) (s : TierState) (v turns : ℕ) → IsTier s → Leaves told s v → IsUnderway told s turns → IsUnderway told (dropped s v) (turns + 1)
underway-dropped told s v turns tier leaves way =
    underway-step told s (dropped s v) way.spent way.spent turns v (count-dropped s v) leaves.is_victim.within
    (above-dropped told s way.spent v leaves way.above)
    (λ q ne. ap (weight_at (way.spent q)) (stage-dropped_other s v q ne))
    (falls (way.spent v) (way.spent v) (way.spent v) (way.spent v) (stage (dropped s v) v) (stage s v) Away Free refl refl (stage-dropped_here told s v tier leaves) (stage-victim told s v leaves) (free_to_away (way.spent v) (victim_unspent told s way.spent v way.above leaves)))
    way.bound

pub above-passed_over : (told : Told) (s : TierState) (spent : ℕ → Bool) (v : ℕ) → AreSpentAbove told s spent → AreSpentAbove told (passed_over s v) spent
unfolding passed_over
above-passed_over told s spent v above r q is within eligible = above r q is within (eligible-passed_over told s v q eligible)

stage-passed_here : (told : Told) (s : TierState) (v : ℕ) → IsTier s → Leaves told s v → stage (passed_over s v) v ≡ Fixed
unfolding passed_over stage_by
stage-passed_here told s v tier leaves =
    let none = nothing_there s v leaves.none_comes in
    stage_is (passed_over s v) v true true false false leaves.is_victim.may.held
    (or_right (is_marked s.pinned v) (is_marked (slice_set s.passed v true) v) (get_or-set_same s.passed v true false (let within = leaves.is_victim.within in let sized = tier.sized.passed in omega arith))) none.0 none.1

stage-passed_other : (s : TierState) (v q : ℕ) → q ≢ v → stage (passed_over s v) q ≡ stage s q
unfolding passed_over
stage-passed_other s v q ne = stage_same s (passed_over s v) q refl (ap (λ (b : Bool). is_marked s.pinned q || b) (get_or-set_other s.passed v q true false ne)) refl refl

count-passed : (s : TierState) (v : ℕ) → count (passed_over s v) ≡ count s
unfolding passed_over
count-passed s v = refl

pub underway-passed_over : (told : Told) (s : TierState) (v turns : ℕ) → IsTier s → Leaves told s v → IsUnderway told s turns → IsUnderway told (passed_over s v) (turns + 1)
underway-passed_over told s v turns tier leaves way =
    underway-step told s (passed_over s v) way.spent way.spent turns v (count-passed s v) leaves.is_victim.within
    (above-passed_over told s way.spent v way.above)
    (λ q ne. ap (weight_at (way.spent q)) (stage-passed_other s v q ne))
    (falls (way.spent v) (way.spent v) (way.spent v) (way.spent v) (stage (passed_over s v) v) (stage s v) Fixed Free refl refl (stage-passed_here told s v tier leaves) (stage-victim told s v leaves) (free_to_fixed (way.spent v) (victim_unspent told s way.spent v way.above leaves)))
    way.bound

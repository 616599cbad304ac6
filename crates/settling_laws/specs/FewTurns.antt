-- One settling of one tier takes few turns.
use Rattle.std.proofs.Common.{◌≡◌, ◌≢◌, ℕ, zero, suc, ◌+◌, ◌*◌, ◌≤◌, true, false, List, length, Option, Some, refl, sym, ap, subst, ◌∙◌, arith}
use Rattle.std.specs.Prelude.{slice_get}
use Rattle.std.proofs.lemmas.Bool.{false≢true}
use Rattle.std.proofs.lemmas.Option.{same_Some}
use Rattle.std.specs.Option.{option_map_or}
use Rattle.tier_model.specs.declared.turns.Turn.{Turn}
use Rattle.tier_model.specs.declared.turns.Turn.TheVariants.{Idle}
use Rattle.tier_model.specs.Tiers.{TierState, count, is_held, IsTier}
use Rattle.tier_model.specs.Choices.{Told}
use Rattle.tier_model.specs.Turns.{Outcome, Board, begun, paired, outcome_in, IsRankedTurn}
use Rattle.tier_model.specs.Chains.{Chain, has_below, told_at, epochs_then}
use Rattle.tier_model.specs.Settling.{TurnsAt, TurnsToIdle, Last, More}
use Rattle.tier_laws.specs.TierLaws.{IsTier-begun}
use Rattle.tier_laws.specs.Chosen.{IsEligible}
use Rattle.tier_laws.specs.Follows.{Follows, Reserves, Gets, Loses, Fails, Breaks, Commits, Evicts, Keeps, Rests}
use Rattle.tier_laws.specs.TurnLaws.{begun_same, begun_places, ranked_follows, turn_is_ranked, setup-turned, version-turned, IsTier-turned}
use Rattle.tier_laws.specs.TieLaws.{epochs_rise}
use Rattle.tier_laws.specs.ChainLaws.{tier_here, others_stay}
use Rattle.settling_laws.specs.Underway.{IsLater, IsUnderway}
use Rattle.settling_laws.specs.WeightLaws.{weights_at_most}
use Rattle.settling_laws.specs.ChangeLaws.{underway-reserved, underway-arrived, underway-lost, underway-fault, underway-changed, underway-committed, underway-dropped, underway-passed_over}

-- ---- at the beginning no patch is spent

pub underway-begins : (told : Told) (s : TierState) → IsUnderway told s 0
underway-begins told s = record {
  spent = λ p. false;
  above = λ p q is within eligible. absurd (false≢true is);
  bound = let most = weights_at_most (λ p. false) s in omega arith;
}

-- ---- each turn but the idle one lowers what all patches weigh

underway-followed : (told : Told) (s : TierState) (o : Outcome) (x : Turn × TierState) (turns : ℕ) → IsTier s → Follows told s o x → x.0 ≢ Idle → IsUnderway told s turns → IsUnderway told x.1 (turns + 1)
underway-followed told s o x turns tier (Reserves c enters) on way = underway-reserved told s c turns enters way
underway-followed told s o x turns tier (Gets p body none bare has is) on way = underway-arrived told s p body turns tier bare way
underway-followed told s o x turns tier (Loses p none bare has) on way = underway-lost told s p turns tier bare has way
underway-followed told s o x turns tier (Fails p none bare has is) on way = underway-fault told s p turns tier bare way
underway-followed told s o x turns tier (Breaks p fault none bare has is) on way = underway-changed told s p fault turns tier bare way
underway-followed told s o x turns tier (Commits p none bare first) on way = underway-committed told s p turns tier bare first way
underway-followed told s o x turns tier (Evicts v none victim leaves unused) on way = underway-dropped told s v turns tier leaves way
underway-followed told s o x turns tier (Keeps v uses none victim leaves top is) on way = underway-passed_over told s v turns tier leaves way
underway-followed told s o x turns tier (Rests rest) on way = absurd (on refl)

-- what may be reserved later, might be before
pub eligible_before : (told later : Told) (s : TierState) (q : ℕ) → IsLater told later → IsEligible later s q → IsEligible told s q
eligible_before told later s q is eligible = record {
  wished = eligible.wished;
  not_base = eligible.not_base;
  not_held = eligible.not_held;
  not_coming = eligible.not_coming;
  not_aside = eligible.not_aside;
  fits = eligible.fits;
  has = sym (is.has q) ∙ eligible.has;
  low = λ top. let rises = is.epochs top q in let below = eligible.low (is.top ∙ top) in omega arith;
}

underway-later : (told later : Told) (s : TierState) (turns : ℕ) → IsLater told later → IsUnderway told s turns → IsUnderway later s turns
underway-later told later s turns is way = record {
  spent = way.spent;
  above = λ p q spent within eligible. way.above p q spent within (eligible_before told later s q is eligible);
  bound = way.bound;
}

pub underway-turned : (told later : Told) (s : TierState) (answer : Turn) (after : TierState) (turns : ℕ) → IsTier s → IsLater told later → IsRankedTurn told s answer after → answer ≢ Idle → IsUnderway told s turns → IsUnderway later after (turns + 1)
underway-turned told later s answer after turns tier is turn on way =
    underway-later told later after (turns + 1) is
    (underway-followed told s (outcome_in answer after) (paired answer after) turns tier (ranked_follows told s answer after turn) on way)

-- ---- turns of one tier of a chain

next_apart : (k : ℕ) → suc k ≢ k
next_apart k same = absurd (omega arith)

epochs_then_rise : (k : ℕ) (answer : Turn) (epochs : ℕ → ℕ) (p : ℕ) → epochs p ≤ epochs_then k answer epochs p
unfolding epochs_then
epochs_then_rise zero answer epochs p = epochs_rise answer epochs p
epochs_then_rise (suc k) answer epochs p = omega arith

-- a turn leaves the tier below as it was, and lets no epoch fall
pub later_after : (board : Board) (k : ℕ) (answer : Turn) (a b : Chain) → TurnsAt board k answer a b → IsLater (told_at a k) (told_at b k)
unfolding has_below
later_after board k answer a b turn = record {
  has = λ p. ap (λ (o : Option TierState). option_map_or (λ (t : TierState). is_held t p) o true) (others_stay board k answer a b turn (suc k) (next_apart k));
  top = refl;
  epochs = λ top p. let rises = epochs_then_rise k answer a.epochs p in let are = turn.epochs p in omega arith;
}

-- a settling of tier k goes on: one turn more was made
pub underway-at : (board : Board) (k : ℕ) (answer : Turn) (a b : Chain) (turns : ℕ) (turn : TurnsAt board k answer a b) → IsTier turn.before → answer ≢ Idle → IsUnderway (told_at a k) (begun board turn.before) turns → IsUnderway (told_at b k) (begun board turn.after) (turns + 1)
underway-at board k answer a b turns turn tier on way =
    subst (λ (t : TierState). IsUnderway (told_at b k) t (turns + 1))
    (sym (begun_same board turn.after (sym (version-turned board (told_at a k) turn.before answer turn.after turn.turns))))
    (underway-turned (told_at a k) (told_at b k) (begun board turn.before) answer turn.after turns (IsTier-begun board turn.before tier) (later_after board k answer a b turn)
    (turn_is_ranked board (told_at a k) turn.before answer turn.after turn.turns) on way)

few_more : (board : Board) (k : ℕ) (a c : Chain) (log : List (ℕ × Turn)) (s : TierState) (made : ℕ) → TurnsToIdle board k a log c → slice_get a.tiers k ≡ Some s → IsTier s → IsUnderway (told_at a k) (begun board s) made → length log + made ≤ 6 * count s + 1
few_more board k a c log s made (Last turn) at tier way =
    let bound = way.bound in
    let many = ap (λ (sizes : List ℕ). length sizes) (begun_places board s).sizes in
    omega arith
few_more board k a c log s made (More {b = b} {log = rest} answer on turn others) at tier way =
    let same = same_Some s turn.before (sym at ∙ turn.was) in
    let before = subst IsTier same tier in
    let after = IsTier-turned board (told_at a k) turn.before answer turn.after before turn.turns turn.body in
    let next = underway-at board k answer a b made turn before on (subst (λ (t : TierState). IsUnderway (told_at a k) (begun board t) made) same way) in
    let few = few_more board k b c rest turn.after (made + 1) others (tier_here board k answer a b turn) after next in
    let many = ap (λ (sizes : List ℕ). length sizes) (setup-turned board (told_at a k) turn.before answer turn.after turn.turns).sizes in
    let is = ap (λ (t : TierState). count t) same in
    omega arith

-- the turns of one tier until one is idle are at most 6 a patch, and one
pub few_turns : (board : Board) (k : ℕ) (a c : Chain) (log : List (ℕ × Turn)) (s : TierState) → TurnsToIdle board k a log c → slice_get a.tiers k ≡ Some s → IsTier s → length log ≤ 6 * count s + 1
few_turns board k a c log s turns at tier =
    let few = few_more board k a c log s 0 turns at tier (underway-begins (told_at a k) (begun board s)) in
    omega arith

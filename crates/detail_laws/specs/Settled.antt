-- Once tiers that are ready have settled, the top tier holds all that is wished and that is below them.
use Rattle.std.proofs.Common.{◌≡◌, ◌≢◌, ℕ, zero, suc, ◌+◌, ◌<◌, ◌≤◌, Bool, true, false, eqb, List, [], ◌∷◌, ◌++◌, length, replicate, Option, Some, refl, sym, ap, subst, ◌∙◌, arith}
use Rattle.std.specs.Prelude.{slice_get, slice_index}
use Rattle.std.specs.Option.{option_map_or}
use Rattle.std.proofs.lemmas.Bool.{cond_both, both_ways, false≢true}
use Rattle.std.proofs.lemmas.Option.{same_Some}
use Rattle.token_words.specs.declared.keeping.TheConstants.{LAST_EPOCH}
use Rattle.tier_model.specs.declared.turns.Turn.{Turn}
use Rattle.tier_model.specs.declared.turns.Turn.TheVariants.{Idle}
use Rattle.tier_model.specs.Places.{is_marked, is_coming}
use Rattle.tier_model.specs.Tiers.{TierState, count, kept_wish, is_held, IsTier}
use Rattle.tier_model.specs.Changes.{calmed, renewed, ranked}
use Rattle.tier_model.specs.Choices.{Told}
use Rattle.tier_model.specs.Turns.{Outcome, Board, begun, paired, outcome_in}
use Rattle.tier_model.specs.Chains.{Chain, has_below, is_top, told_at, epochs_then}
use Rattle.tier_model.specs.Settling.{TurnsAt, TurnsToIdle, Last, More, Settles, Settled, Tier}
use Rattle.tier_laws.specs.Follows.{AtRest, Follows, Reserves, Gets, Loses, Fails, Breaks, Commits, Evicts, Keeps, Rests}
use Rattle.tier_laws.specs.TierLaws.{IsTier-begun}
use Rattle.tier_laws.specs.TurnLaws.{alike-followed, begun_same, begun_places, begun_wishes, turn_follows, setup-turned, version-turned, IsTier-turned}
use Rattle.tier_model.specs.Keeping.{IsAlike}
use Rattle.tier_laws.specs.ChainLaws.{tier_here, others_stay, epochs_stay}
use Rattle.settling_laws.specs.FewTurns.{later_after}
use Rattle.detail_laws.specs.Needs.{KeepsBase, IsCalm, IsTierReady, GoesWell, GoWell, IsHeldIn, AreReady}
use Rattle.detail_laws.specs.NeedLaws.{needed_same}
use Rattle.detail_laws.specs.Gathers.{rises_by, IsThen}
use Rattle.detail_laws.specs.GatherLaws.{IsGathering, gathering-followed}
use Rattle.detail_laws.specs.AtRest.{HasRoom, rest-holds}

-- ---- a tier that is ready begins

pub nothing_marked : (n p : ℕ) → is_marked (replicate n false) p ≡ false
nothing_marked zero p = refl
nothing_marked (suc n) zero = refl
nothing_marked (suc n) (suc p) = nothing_marked n p

pub base-begun : (board : Board) (s : TierState) → KeepsBase s → KeepsBase (begun board s)
unfolding begun ranked renewed
base-begun board s keeps =
    cond_both (eqb board.version s.version) s (renewed (ranked s board.wish) board.version) KeepsBase
    (λ same. keeps)
    (λ differs. record { pins = keeps.pins; held = keeps.held; coming = keeps.coming })

calm-begun : (board : Board) (used : ℕ → Bool) (s : TierState) → IsCalm used s → IsCalm used (begun board s)
unfolding begun ranked renewed
calm-begun board used s calm =
    cond_both (eqb board.version s.version) s (renewed (ranked s board.wish) board.version) (IsCalm used)
    (λ same. calm)
    (λ differs. record {
      none_aside = nothing_marked (count s);
      passed = λ p passed. absurd (both_ways (is_marked (replicate (count s) false) p) (nothing_marked (count s) p) passed);
    })

few_rises : (held coming : Bool) → rises_by held coming ≤ 2
unfolding rises_by
few_rises true coming = omega arith
few_rises false true = omega arith
few_rises false false = omega arith

pub gathering-begins : (board : Board) (told : Told) (used : ℕ → Bool) (s : TierState) → IsTierReady board used s → ((p : ℕ) → p < count s → told.epochs p + 2 < LAST_EPOCH) → IsGathering told (begun board s) used
gathering-begins board told used s ready low = record {
  spent = λ p. false;
  gathers = record {
    above = λ p q spent within eligible. absurd (false≢true spent);
    there = λ p spent. absurd (false≢true spent);
    low = λ top p within unspent.
        let few = few_rises (is_held (begun board s) p) (is_coming (begun board s).coming p) in
        let is = low p (subst (λ (sizes : List ℕ). p < length sizes) (begun_places board s).sizes within) in
        omega arith;
    keeps_base = base-begun board s ready.keeps_base;
    calm = calm-begun board used s ready.calm;
  };
}

pub room-begins : (board : Board) (used : ℕ → Bool) (s : TierState) → IsTierReady board used s → HasRoom used (begun board s)
room-begins board used s ready = record {
  room =
      let places = begun_places board s in
      let needs = needed_same s (begun board s) board.wish (kept_wish (begun board s)) used places.sizes places.base places.pinned (λ p within. begun_wishes board s ready.keeps_wishes p within) in
      let budget = places.budget in
      let room = ready.room in
      omega arith;
}

-- ---- a tier that settles

-- tier k is still to bring the patch, which is wished and which the tier below has
record IsToBring (board : Board) (k : ℕ) (a : Chain) (used : ℕ → Bool) (p : ℕ) (s : TierState) : Type 0 where
  is_tier : IsTier s
  gathering : IsGathering (told_at a k) (begun board s) used
  room : HasRoom used (begun board s)
  within : p < count s
  not_base : is_marked s.base p ≡ false
  wished : 0 < kept_wish (begun board s) p
  there : has_below a.tiers k p ≡ true

pub then_after : (board : Board) (k : ℕ) (answer : Turn) (a b : Chain) → TurnsAt board k answer a b → IsThen (told_at a k) (told_at b k) answer
unfolding is_top epochs_then
then_after board zero answer a b turn = record { has = (later_after board zero answer a b turn).has; top = refl; epochs = λ top p. turn.epochs p }
then_after board (suc k) answer a b turn = record { has = (later_after board (suc k) answer a b turn).has; top = refl; epochs = λ top p. absurd (false≢true top) }

pub room_alike : (used : ℕ → Bool) (s t : TierState) → IsAlike s t → HasRoom used s → HasRoom used t
room_alike used s t alike has_room = record {
  room =
      let needs = needed_same s t (kept_wish s) (kept_wish t) used alike.sizes alike.base alike.pinned (λ p within. ap (λ (wishes : List ℕ). slice_index wishes p) alike.wishes) in
      let budget = alike.budget in
      let room = has_room.room in
      omega arith;
}

bring-turned : (board : Board) (k : ℕ) (answer : Turn) (a b : Chain) (used : ℕ → Bool) (p : ℕ) (turn : TurnsAt board k answer a b) → answer ≢ Idle → GoesWell used answer → IsToBring board k a used p turn.before → IsToBring board k b used p turn.after
bring-turned board k answer a b used p turn on well bring =
    let s = begun board turn.before in
    let t = turn.after in
    let follows = turn_follows board (told_at a k) turn.before answer t turn.turns in
    let alike = alike-followed (told_at a k) s (outcome_in answer t) (paired answer t) follows in
    let places = begun_places board turn.before in
    let same : begun board t ≡ t = begun_same board t (sym (version-turned board (told_at a k) turn.before answer t turn.turns)) in
    let next = then_after board k answer a b turn in
    record {
      is_tier = IsTier-turned board (told_at a k) turn.before answer t bring.is_tier turn.turns turn.body;
      gathering = subst (λ (u : TierState). IsGathering (told_at b k) u used) (sym same)
          (gathering-followed (told_at a k) (told_at b k) s (outcome_in answer t) (paired answer t) used (IsTier-begun board turn.before bring.is_tier) follows on well next bring.gathering);
      room = subst (HasRoom used) (sym same) (room_alike used s t alike bring.room);
      within = subst (λ (sizes : List ℕ). p < length sizes) (sym (alike.sizes ∙ places.sizes)) bring.within;
      not_base = subst (λ (base : List Bool). is_marked base p ≡ false) (sym (alike.base ∙ places.base)) bring.not_base;
      wished = subst (λ (u : TierState). 0 < kept_wish u p) (sym same) (subst (λ (wishes : List ℕ). 0 < slice_index wishes p) (sym alike.wishes) bring.wished);
      there = next.has p ∙ bring.there;
    }

-- an idle turn is one at rest
pub record HasRested (told : Told) (s t : TierState) : Type 0 where
  pub rest : AtRest told s
  pub is : t ≡ calmed s

pub idle_rests : (told : Told) (s : TierState) (o : Outcome) (x : Turn × TierState) → Follows told s o x → x.0 ≡ Idle → HasRested told s x.1
idle_rests told s o x (Reserves c enters) idle = absurd (cc)
idle_rests told s o x (Gets p body none bare has came) idle = absurd (cc)
idle_rests told s o x (Loses p none bare has) idle = absurd (cc)
idle_rests told s o x (Fails p none bare has failed) idle = absurd (cc)
idle_rests told s o x (Breaks p fault none bare has broken) idle = absurd (cc)
idle_rests told s o x (Commits p none bare first) idle = absurd (cc)
idle_rests told s o x (Evicts v none victim leaves unused) idle = absurd (cc)
idle_rests told s o x (Keeps v uses none victim leaves top found) idle = absurd (cc)
idle_rests told s o x (Rests rest) idle = record { rest = rest; is = refl }

held-calmed : (s : TierState) (p : ℕ) → is_held (calmed s) p ≡ is_held s p
unfolding calmed
held-calmed s p = refl

brought : (board : Board) (k : ℕ) (a b : Chain) (used : ℕ → Bool) (p : ℕ) (turn : TurnsAt board k Idle a b) → IsToBring board k a used p turn.before → is_held turn.after p ≡ true
brought board k a b used p turn bring =
    let s = begun board turn.before in
    let rested = idle_rests (told_at a k) s (outcome_in Idle turn.after) (paired Idle turn.after) (turn_follows board (told_at a k) turn.before Idle turn.after turn.turns) refl in
    let places = begun_places board turn.before in
    let tier = IsTier-begun board turn.before bring.is_tier in
    ap (λ (u : TierState). is_held u p) rested.is ∙ held-calmed s p
    ∙ rest-holds (told_at a k) s used bring.gathering.spent p tier.wide.some_come rested.rest bring.gathering.gathers bring.room
    (subst (λ (sizes : List ℕ). p < length sizes) (sym places.sizes) bring.within)
    (subst (λ (base : List Bool). is_marked base p ≡ false) (sym places.base) bring.not_base)
    bring.wished bring.there

tier_brings : (board : Board) (k : ℕ) (a b : Chain) (log : List (ℕ × Turn)) (used : ℕ → ℕ → Bool) (p : ℕ) (s : TierState) → TurnsToIdle board k a log b → slice_get a.tiers k ≡ Some s → GoWell used log → IsToBring board k a (used k) p s → IsHeldIn b.tiers k p
tier_brings board k a b log used p s (Last turn) at well bring = record {
  tier = turn.after;
  at = tier_here board k Idle a b turn;
  holds = brought board k a b (used k) p turn (subst (IsToBring board k a (used k) p) (same_Some s turn.before (sym at ∙ turn.was)) bring);
}
tier_brings board k a c log used p s (More {b = b} {log = later} answer on turn rest) at well bring =
    tier_brings board k b c later used p turn.after rest (tier_here board k answer a b turn) well.1
    (bring-turned board k answer a b (used k) p turn on well.0 (subst (IsToBring board k a (used k) p) (same_Some s turn.before (sym at ∙ turn.was)) bring))

-- ---- the tiers above it

to_idle_others : (board : Board) (k : ℕ) (a b : Chain) (log : List (ℕ × Turn)) → TurnsToIdle board k a log b → (j : ℕ) → j ≢ k → slice_get b.tiers j ≡ slice_get a.tiers j
to_idle_others board k a b log (Last turn) j ne = others_stay board k Idle a b turn j ne
to_idle_others board k a c log (More {b = b} {log = later} answer on turn rest) j ne = to_idle_others board k b c later rest j ne ∙ others_stay board k answer a b turn j ne

to_idle_epochs : (board : Board) (k : ℕ) (a b : Chain) (log : List (ℕ × Turn)) → TurnsToIdle board (suc k) a log b → (p : ℕ) → b.epochs p ≡ a.epochs p
to_idle_epochs board k a b log (Last turn) p = epochs_stay board k Idle a b turn p
to_idle_epochs board k a c log (More {b = b} {log = later} answer on turn rest) p = to_idle_epochs board k b c later rest p ∙ epochs_stay board k answer a b turn p

ready_above : (board : Board) (used : ℕ → ℕ → Bool) (base : List Bool) (k : ℕ) (a b : Chain) (log : List (ℕ × Turn)) → TurnsToIdle board (suc k) a log b → AreReady board used base (suc (suc k)) a → AreReady board used base (suc k) b
ready_above board used base k a b log turns ready = record {
  each = λ j s below at. ready.each j s (omega arith) (was j below ∙ at);
  same_base = λ j s below at. ready.same_base j s (omega arith) (was j below ∙ at);
  low = λ p within. let same = to_idle_epochs board k a b log turns p in let low = ready.low p within in omega arith;
}
  where
    was : (j : ℕ) → j < suc k → slice_get a.tiers j ≡ slice_get b.tiers j
    was j below = sym (to_idle_others board (suc k) a b log turns j (λ same. absurd (omega arith)))

begins_to_bring : (board : Board) (used : ℕ → ℕ → Bool) (base : List Bool) (k : ℕ) (a : Chain) (p : ℕ) (s : TierState) → AreReady board used base (suc k) a → slice_get a.tiers k ≡ Some s → p < length base → is_marked base p ≡ false → 0 < board.wish p → has_below a.tiers k p ≡ true → IsToBring board k a (used k) p s
begins_to_bring board used base k a p s are at within not_base wished there =
    let ready = are.each k s (omega arith) at in
    let same = are.same_base k s (omega arith) at in
    let many : length base ≡ count s = sym (ap (λ (marks : List Bool). length marks) same) ∙ ready.is_tier.sized.base in
    let here : p < count s = subst (λ (n : ℕ). p < n) many within in
    record {
      is_tier = ready.is_tier;
      gathering = gathering-begins board (told_at a k) (used k) s ready (λ q below. are.low q (subst (λ (n : ℕ). q < n) (sym many) below));
      room = room-begins board (used k) s ready;
      within = here;
      not_base = subst (λ (marks : List Bool). is_marked marks p ≡ false) (sym same) not_base;
      wished = subst (λ (n : ℕ). 0 < n) (sym (begun_wishes board s ready.keeps_wishes p here)) wished;
      there = there;
    }

to_idle_first : (board : Board) (k : ℕ) (a b : Chain) (log : List (ℕ × Turn)) → TurnsToIdle board k a log b → (s : TierState) × (slice_get a.tiers k ≡ Some s)
to_idle_first board k a b log (Last turn) = (turn.before, turn.was)
to_idle_first board k a b log (More answer on turn rest) = (turn.before, turn.was)

well_parts : (used : ℕ → ℕ → Bool) (log rest : List (ℕ × Turn)) → GoWell used (log ++ rest) → GoWell used log × GoWell used rest
well_parts used [] rest well = (tt, well)
well_parts used (entry ∷ log) rest well = let later = well_parts used log rest well.1 in ((well.0, later.0), later.1)

held_is_below : (tiers : List TierState) (k p : ℕ) → IsHeldIn tiers (suc k) p → has_below tiers k p ≡ true
unfolding has_below
held_is_below tiers k p held = ap (λ (o : Option TierState). option_map_or (λ (t : TierState). is_held t p) o true) held.at ∙ held.holds

-- what is wished and stands below the tiers is held at the top
pub settled-holds : (board : Board) (used : ℕ → ℕ → Bool) (base : List Bool) (k : ℕ) (a c : Chain) (log : List (ℕ × Turn)) → Settles board (suc k) a log c → AreReady board used base (suc k) a → GoWell used log → (p : ℕ) → p < length base → is_marked base p ≡ false → 0 < board.wish p → has_below a.tiers k p ≡ true → IsHeldIn c.tiers 0 p
settled-holds board used base zero a c log (Tier {log = first} turns Settled) ready well p within not_base wished there =
    let at = to_idle_first board zero a c first turns in
    tier_brings board zero a c first used p at.0 turns at.1 (well_parts used first [] well).0 (begins_to_bring board used base zero a p at.0 ready at.1 within not_base wished there)
settled-holds board used base (suc k) a c log (Tier {b = b} {log = first} {rest = rest} turns later) ready well p within not_base wished there =
    let at = to_idle_first board (suc k) a b first turns in
    let parts = well_parts used first rest well in
    let held = tier_brings board (suc k) a b first used p at.0 turns at.1 parts.0 (begins_to_bring board used base (suc k) a p at.0 ready at.1 within not_base wished there) in
    settled-holds board used base k b c rest later (ready_above board used base k a b first turns ready) parts.1 p within not_base wished (held_is_below b.tiers k p held)

-- ---- as many patches as before

count_turned : (board : Board) (k : ℕ) (answer : Turn) (a b : Chain) → TurnsAt board k answer a b → (s t : TierState) → slice_get a.tiers k ≡ Some s → slice_get b.tiers k ≡ Some t → count t ≡ count s
count_turned board k answer a b turn s t was is =
    ap (λ (u : TierState). count u) (same_Some t turn.after (sym is ∙ tier_here board k answer a b turn))
    ∙ ap (λ (sizes : List ℕ). length sizes) (setup-turned board (told_at a k) turn.before answer turn.after turn.turns).sizes
    ∙ ap (λ (u : TierState). count u) (same_Some turn.before s (sym turn.was ∙ was))

to_idle_count : (board : Board) (k : ℕ) (a b : Chain) (log : List (ℕ × Turn)) → TurnsToIdle board k a log b → (s t : TierState) → slice_get a.tiers k ≡ Some s → slice_get b.tiers k ≡ Some t → count t ≡ count s
to_idle_count board k a b log (Last turn) s t was is = count_turned board k Idle a b turn s t was is
to_idle_count board k a c log (More {b = b} {log = later} answer on turn rest) s t was is =
    to_idle_count board k b c later rest turn.after t (tier_here board k answer a b turn) is ∙ count_turned board k answer a b turn s turn.after was (tier_here board k answer a b turn)

-- the top tier has as many patches as there are marks of base patches
pub settled-count : (board : Board) (used : ℕ → ℕ → Bool) (base : List Bool) (n : ℕ) (a c : Chain) (log : List (ℕ × Turn)) → Settles board n a log c → AreReady board used base n a → (t : TierState) → slice_get c.tiers 0 ≡ Some t → 1 ≤ n → count t ≡ length base
settled-count board used base zero a c log _ ready t is some = absurd (omega arith)
settled-count board used base (suc zero) a c log (Tier {log = first} turns Settled) ready t is some =
    let at = to_idle_first board zero a c first turns in
    let here = ready.each zero at.0 (omega arith) at.1 in
    to_idle_count board zero a c first turns at.0 t at.1 is ∙ sym here.is_tier.sized.base ∙ ap (λ (marks : List Bool). length marks) (ready.same_base zero at.0 (omega arith) at.1)
settled-count board used base (suc (suc k)) a c log (Tier {b = b} {log = first} {rest = rest} turns later) ready t is some =
    settled-count board used base (suc k) b c rest later (ready_above board used base k a b first turns ready) t is (omega arith)

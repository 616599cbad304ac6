-- What turns of a chain keep: each tier is a tier, and the top stays tied to its epochs.
use Rattle.std.proofs.Common.{◌≡◌, ◌≢◌, ℕ, zero, suc, Bool, List, [], ◌∷◌, Some, refl, sym, ap, subst, ◌∙◌, inl, inr}
use Rattle.std.specs.Prelude.{slice_get, slice_set}
use Rattle.std.proofs.lemmas.Bool.{cases_eq}
use Rattle.std.proofs.lemmas.Option.{same_Some}
use Rattle.tier_model.specs.declared.turns.Turn.{Turn}
use Rattle.tier_model.specs.declared.turns.Turn.TheVariants.{Idle}
use Rattle.tier_model.specs.Tiers.{TierState, IsTier}
use Rattle.tier_model.specs.Ties.{epochs_after, IsTied}
use Rattle.tier_model.specs.Turns.{Board}
use Rattle.tier_model.specs.Chains.{Chain, is_top, told_at, epochs_then}
use Rattle.tier_model.specs.Settling.{TurnsAt, TurnsToIdle, Last, More, Settles, Settled, Tier}
use Rattle.tier_laws.specs.BodyLaws.{get-set_other}
use Rattle.tier_laws.specs.TurnLaws.{IsTier-turned}
use Rattle.tier_laws.specs.TieLaws.{tied-again, tied-turned}

-- ---- one turn

get-set_here : {X : Type 0} (xs : List X) (k : ℕ) (x y : X) → slice_get xs k ≡ Some x → slice_get (slice_set xs k y) k ≡ Some y
get-set_here [] k x y at = absurd (cc)
get-set_here (z ∷ xs) zero x y at = refl
get-set_here (z ∷ xs) (suc k) x y at = get-set_here xs k x y at

-- tier k is as the turn left it
pub tier_here : (board : Board) (k : ℕ) (answer : Turn) (a b : Chain) (turn : TurnsAt board k answer a b) → slice_get b.tiers k ≡ Some turn.after
tier_here board k answer a b turn = ap (λ (ts : List TierState). slice_get ts k) turn.is ∙ get-set_here a.tiers k turn.before turn.after turn.was

-- each other tier stays
pub others_stay : (board : Board) (k : ℕ) (answer : Turn) (a b : Chain) → TurnsAt board k answer a b → (j : ℕ) → j ≢ k → slice_get b.tiers j ≡ slice_get a.tiers j
others_stay board k answer a b turn j ne = ap (λ (ts : List TierState). slice_get ts j) turn.is ∙ get-set_other a.tiers k j turn.after ne

-- turns of the tiers below the top leave all epochs
pub epochs_stay : (board : Board) (k : ℕ) (answer : Turn) (a b : Chain) → TurnsAt board (suc k) answer a b → (p : ℕ) → b.epochs p ≡ a.epochs p
unfolding epochs_then
epochs_stay board k answer a b turn p = turn.epochs p

-- a turn of the top tier changes them as its answer says
pub epochs_move : (board : Board) (answer : Turn) (a b : Chain) → TurnsAt board zero answer a b → (p : ℕ) → b.epochs p ≡ epochs_after answer a.epochs p
unfolding epochs_then
epochs_move board answer a b turn p = turn.epochs p

-- ---- each tier stays a tier

pub record AreTiers (a : Chain) : Type 0 where
  pub each : (k : ℕ) (t : TierState) → slice_get a.tiers k ≡ Some t → IsTier t

pub tier_after : (board : Board) (k : ℕ) (answer : Turn) (a b : Chain) → AreTiers a → (turn : TurnsAt board k answer a b) → IsTier turn.after
tier_after board k answer a b tiers turn = IsTier-turned board (told_at a k) turn.before answer turn.after (tiers.each k turn.before turn.was) turn.turns turn.body

pub tiers_turned : (board : Board) (k : ℕ) (answer : Turn) (a b : Chain) → AreTiers a → TurnsAt board k answer a b → AreTiers b
tiers_turned board k answer a b tiers turn = record {
  each = λ j t at. elim (cases_eq j k) [
    | inl same ↦ subst IsTier (same_Some turn.after t (sym (tier_here board k answer a b turn) ∙ subst (λ (i : ℕ). slice_get b.tiers i ≡ Some t) same at)) (tier_after board k answer a b tiers turn)
    | inr ne ↦ tiers.each j t (sym (others_stay board k answer a b turn j ne) ∙ at)
  ];
}

pub tiers_to_idle : (board : Board) (k : ℕ) (a b : Chain) (log : List (ℕ × Turn)) → AreTiers a → TurnsToIdle board k a log b → AreTiers b
tiers_to_idle board k a b log tiers (Last turn) = tiers_turned board k Idle a b tiers turn
tiers_to_idle board k a c log tiers (More {b = b} {log = later} answer on turn rest) = tiers_to_idle board k b c later (tiers_turned board k answer a b tiers turn) rest

pub tiers_settled : (board : Board) (n : ℕ) (a b : Chain) (log : List (ℕ × Turn)) → AreTiers a → Settles board n a log b → AreTiers b
tiers_settled board zero a b log tiers Settled = tiers
tiers_settled board (suc n) a c log tiers (Tier {b = b} {log = first} {rest = rest} turns later) = tiers_settled board n b c rest (tiers_to_idle board n a b first tiers turns) later

-- ---- the top stays tied

pub record IsTopTied (a : Chain) (pinned : ℕ → Bool) : Type 0 where
  pub top : (t : TierState) → slice_get a.tiers 0 ≡ Some t → IsTied t a.epochs pinned

pub tied_turned : (board : Board) (k : ℕ) (answer : Turn) (a b : Chain) (pinned : ℕ → Bool) → AreTiers a → TurnsAt board k answer a b → IsTopTied a pinned → IsTopTied b pinned
unfolding is_top
tied_turned board zero answer a b pinned tiers turn tied = record {
  top = λ t at.
      subst (λ (s : TierState). IsTied s b.epochs pinned) (same_Some turn.after t (sym (tier_here board zero answer a b turn) ∙ at))
      (tied-again turn.after (epochs_after answer a.epochs) b.epochs pinned pinned (epochs_move board answer a b turn) (λ p. refl)
      (tied-turned board (told_at a zero) turn.before answer turn.after pinned (tiers.each zero turn.before turn.was) refl turn.turns (tied.top turn.before turn.was)));
}
tied_turned board (suc k) answer a b pinned tiers turn tied = record {
  top = λ t at. tied-again t a.epochs b.epochs pinned pinned (epochs_stay board k answer a b turn) (λ p. refl) (tied.top t (sym (others_stay board (suc k) answer a b turn zero (λ same. absurd (cc))) ∙ at));
}

pub tied_to_idle : (board : Board) (k : ℕ) (a b : Chain) (log : List (ℕ × Turn)) (pinned : ℕ → Bool) → AreTiers a → TurnsToIdle board k a log b → IsTopTied a pinned → IsTopTied b pinned
tied_to_idle board k a b log pinned tiers (Last turn) tied = tied_turned board k Idle a b pinned tiers turn tied
tied_to_idle board k a c log pinned tiers (More {b = b} {log = later} answer on turn rest) tied =
    tied_to_idle board k b c later pinned (tiers_turned board k answer a b tiers turn) rest (tied_turned board k answer a b pinned tiers turn tied)

pub tied_settled : (board : Board) (n : ℕ) (a b : Chain) (log : List (ℕ × Turn)) (pinned : ℕ → Bool) → AreTiers a → Settles board n a log b → IsTopTied a pinned → IsTopTied b pinned
tied_settled board zero a b log pinned tiers Settled tied = tied
tied_settled board (suc n) a c log pinned tiers (Tier {b = b} {log = first} {rest = rest} turns later) tied =
    tied_settled board n b c rest pinned (tiers_to_idle board n a b first tiers turns) later (tied_to_idle board n a b first pinned tiers turns tied)

-- What stays of a tier that wishes nothing any more.
use Rattle.std.proofs.Common.{◌≡◌, ℕ, zero, suc, ◌<◌, Bool, List, [], ◌∷◌, map, Some, refl}
use Rattle.std.specs.Prelude.{slice_get}
use Rattle.std.proofs.lemmas.Option.{same_Some}
use Rattle.file_model.specs.Lists.{SeenBody}
use Rattle.session_laws.specs.StateLaws.{none_left_over}
use Rattle.tier_model.specs.Tiers.{TierState, count, kept_wish, IsTier}
use Rattle.tier_model.specs.Changes.{ranked, renewed}
use Rattle.tier_model.specs.Keeping.{KeepsSetup}
use Rattle.tier_model.specs.Ties.{IsTied}
use Rattle.tier_laws.specs.TierLaws.{IsTier-renewed, IsTier-ranked, ranked_wish}
use Rattle.detail_laws.specs.Needs.{KeepsBase}
use Rattle.cache_chain.specs.ChainStates.{HasBodies}
use Rattle.resumed_model.specs.Resting.{IsAtRest}
use Rattle.left_runs.specs.Left.{unwished}

module _ (s : TierState) where
  -- it keeps what it was made with
  pub unwished_setup : KeepsSetup s (unwished s)
  unfolding ranked renewed
  unwished_setup = record { budget = refl; width = refl; sizes = refl; base = refl; pinned = refl }

  pub unwished_version : (unwished s).version ≡ 0
  unfolding renewed
  unwished_version = refl

  pub unwished_wish : (p : ℕ) → p < count s → kept_wish (unwished s) p ≡ 0
  unfolding renewed
  unwished_wish p within = ranked_wish s (λ q. 0) p within

  pub unwished_rests : IsAtRest (unwished s)
  unfolding ranked renewed
  unwished_rests = record { none_passed = none_left_over (count s); none_aside = none_left_over (count s) }

  pub unwished_tier : IsTier s → IsTier (unwished s)
  unwished_tier tier = IsTier-renewed (ranked s (λ p. 0)) 0 (IsTier-ranked s (λ p. 0) tier)

  pub unwished_tied : (epochs : ℕ → ℕ) (pinned : ℕ → Bool) → IsTied s epochs pinned → IsTied (unwished s) epochs pinned
  unfolding ranked renewed
  unwished_tied epochs pinned tied = record { held = tied.held; pins = tied.pins; low = tied.low }

  pub unwished_bodies : (P : ℕ → SeenBody → Type 0) → HasBodies P s → HasBodies P (unwished s)
  unfolding ranked renewed
  unwished_bodies P bodies = record { held = bodies.held; came = bodies.came }

  pub unwished_base : KeepsBase s → KeepsBase (unwished s)
  unfolding ranked renewed
  unwished_base keeps = record { pins = keeps.pins; held = keeps.held; coming = keeps.coming }

-- ---- lists of tiers

-- each tier of the list was one before
pub record WasTier (tiers : List TierState) (k : ℕ) (t : TierState) : Type 0 where
  pub before : TierState
  pub at : slice_get tiers k ≡ Some before
  pub is : unwished before ≡ t

pub was_tier : (tiers : List TierState) (k : ℕ) (t : TierState) → slice_get (map unwished tiers) k ≡ Some t
    → WasTier tiers k t
was_tier [] k t at = absurd (cc)
was_tier (s ∷ ss) zero t at = record { before = s; at = refl; is = same_Some (unwished s) t at }
was_tier (s ∷ ss) (suc k) t at =
    let there = was_tier ss k t at in
    record { before = there.before; at = there.at; is = there.is }

-- A settling of one tier that is underway.
use Rattle.std.specs.Prelude.{◌≡◌, ℕ, ◌+◌, ◌*◌, ◌<◌, ◌≤◌, Bool, true}
use Rattle.tier_model.specs.Tiers.{TierState, count, kept_wish}
use Rattle.tier_model.specs.Ranks.{outranks}
use Rattle.tier_model.specs.Choices.{Told}
use Rattle.tier_laws.specs.Chosen.{IsEligible}
use Rattle.settling_laws.specs.Stages.{weights}

-- the tier below is the same, and at the top no epoch has fallen
pub record IsLater (told later : Told) : Type 0 where
  pub has : (p : ℕ) → later.has p ≡ told.has p
  pub top : later.top ≡ told.top
  pub epochs : told.top ≡ true → (p : ℕ) → told.epochs p ≤ later.epochs p

-- each patch that is spent outranks each that may be reserved
abbrev pub AreSpentAbove : Told → TierState → (ℕ → Bool) → Type 0
AreSpentAbove told s spent = (p q : ℕ) → spent p ≡ true → q < count s → IsEligible told s q → outranks (kept_wish s) p q ≡ true

-- after so many turns: some patches are spent, and what all weigh and the turns are at most 6 a patch
pub record IsUnderway (told : Told) (s : TierState) (turns : ℕ) : Type 0 where
  pub spent : ℕ → Bool
  pub above : AreSpentAbove told s spent
  pub bound : weights spent s + turns ≤ 6 * count s

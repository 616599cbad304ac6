-- A settling of one tier that goes well so far.
use Rattle.std.specs.Prelude.{◌≡◌, ℕ, ◌+◌, ◌<◌, Bool, true, false, ◌||◌}
use Rattle.token_words.specs.declared.keeping.TheConstants.{LAST_EPOCH}
use Rattle.tier_model.specs.declared.turns.Turn.{Turn}
use Rattle.tier_model.specs.Places.{is_coming}
use Rattle.tier_model.specs.Tiers.{TierState, count, is_held}
use Rattle.tier_model.specs.Ties.{epochs_after}
use Rattle.tier_model.specs.Choices.{Told}
use Rattle.settling_laws.specs.Underway.{AreSpentAbove}
use Rattle.detail_laws.specs.Needs.{KeepsBase, IsCalm}

-- how often the epoch of a patch may still rise before the patch is to be reserved: where it is held it may
-- leave, and where it comes it may come to be held and leave
unfoldable pub rises_by : Bool → Bool → ℕ
rises_by true coming = 1
rises_by false true = 2
rises_by false false = 0

abbrev pub rises : TierState → ℕ → ℕ
rises s p = rises_by (is_held s p) (is_coming s.coming p)

-- the patch is held or comes
abbrev pub is_there : TierState → ℕ → Bool
is_there s p = is_held s p || is_coming s.coming p

-- the spent patches, which were reserved, outrank all that may be, and are there; the epochs of the others
-- stay below the last; base patches stay where they are, and nothing is put aside
pub record Gathers (told : Told) (s : TierState) (used spent : ℕ → Bool) : Type 0 where
  pub above : AreSpentAbove told s spent
  pub there : (p : ℕ) → spent p ≡ true → (told.has p ≡ true) × (is_there s p ≡ true)
  pub low : told.top ≡ true → (p : ℕ) → p < count s → spent p ≡ false → told.epochs p + rises s p < LAST_EPOCH
  pub keeps_base : KeepsBase s
  pub calm : IsCalm used s

-- what a tier is told after a turn: the tier below is the same, and at the top the epochs are as the answer says
pub record IsThen (told later : Told) (answer : Turn) : Type 0 where
  pub has : (p : ℕ) → later.has p ≡ told.has p
  pub top : later.top ≡ told.top
  pub epochs : told.top ≡ true → (p : ℕ) → later.epochs p ≡ epochs_after answer told.epochs p

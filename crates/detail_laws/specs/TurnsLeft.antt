-- How many turns a settling of one tier still takes, where no patch has to leave.
use Rattle.std.specs.Prelude.{◌≡◌, ℕ, ◌<◌, Bool, true, false, not, ◌&&◌, nat_lt}
use Rattle.tier_model.specs.Places.{is_marked, is_coming, is_full}
use Rattle.tier_model.specs.Tiers.{TierState, count, kept_wish, is_held}
use Rattle.tier_model.specs.Choices.{Told}
use Rattle.settling_laws.specs.Stages.{sum_below}
use Rattle.detail_laws.specs.Needs.{is_needed}

-- the patch is wished and no base patch, and the tier below has it
abbrev pub is_due : Told → TierState → ℕ → Bool
is_due told s p = nat_lt 0 (kept_wish s p) && (not (is_marked s.base p) && told.has p)

-- the turns of a patch that is held, comes, has its body and is due, as far as these hold: one to reserve it, one to
-- fetch it and one to hold it
unfoldable pub turns_by : Bool → Bool → Bool → Bool → ℕ
turns_by true coming full due = 0
turns_by false true true due = 1
turns_by false true false due = 2
turns_by false false full true = 3
turns_by false false full false = 0

abbrev pub turns_of_patch : Told → TierState → ℕ → ℕ
turns_of_patch told s p = turns_by (is_held s p) (is_coming s.coming p) (is_full s.coming p) (is_due told s p)

-- the turns of all patches
unfoldable pub turns_left : Told → TierState → ℕ
turns_left told s = sum_below (count s) (turns_of_patch told s)

-- each held patch is needed, and each that comes is due
pub record HoldsNeeded (told : Told) (used : ℕ → Bool) (s : TierState) : Type 0 where
  pub held : (p : ℕ) → p < count s → is_held s p ≡ true → is_needed s (kept_wish s) used p ≡ true
  pub coming : (p : ℕ) → is_coming s.coming p ≡ true → is_due told s p ≡ true

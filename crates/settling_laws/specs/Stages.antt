-- How far a patch has come in a settling, and what that weighs.
use Rattle.std.specs.Prelude.{ℕ, zero, suc, ◌+◌, Bool, true, false, ◌||◌}
use Rattle.tier_model.specs.Places.{is_marked, is_coming, is_full}
use Rattle.tier_model.specs.Tiers.{TierState, count, is_held}

-- held for good, held but free to leave, coming with its body, coming without one, or none of these
pub data Stage : Type 0 where
  Fixed Free Full Bare Away : Stage

-- the stage of a patch that is held, pinned or passed, coming, and has its body, as far as these hold
unfoldable pub stage_by : Bool → Bool → Bool → Bool → Stage
stage_by true true coming full = Fixed
stage_by true false coming full = Free
stage_by false fixed true true = Full
stage_by false fixed true false = Bare
stage_by false fixed false full = Away

-- a patch that is pinned or passed doesn't leave
abbrev pub is_fixed : TierState → ℕ → Bool
is_fixed s p = is_marked s.pinned p || is_marked s.passed p

unfoldable pub stage : TierState → ℕ → Stage
stage s p = stage_by (is_held s p) (is_fixed s p) (is_coming s.coming p) (is_full s.coming p)

-- how many turns a patch at a stage may still take; one that is spent was reserved before, and isn't again
unfoldable pub weight_at : Bool → Stage → ℕ
weight_at false Fixed = 0
weight_at false Free = 4
weight_at false Full = 5
weight_at false Bare = 6
weight_at false Away = 3
weight_at true Fixed = 0
weight_at true Free = 0
weight_at true Full = 1
weight_at true Bare = 2
weight_at true Away = 0

-- the sum of n values
unfoldable pub sum_below : ℕ → (ℕ → ℕ) → ℕ
sum_below zero f = 0
sum_below (suc n) f = f n + sum_below n f

-- the weights of all patches
unfoldable pub weights : (ℕ → Bool) → TierState → ℕ
weights spent s = sum_below (count s) (λ p. weight_at (spent p) (stage s p))

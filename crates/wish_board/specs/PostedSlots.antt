-- The slots of a list of views that have one.
use Rattle.std.specs.Prelude.{◌≡◌, ℕ, ◌<◌, List, length, Option, Some, slice_get, All, Contains}
use Rattle.tier_model.specs.Ranks.{Posted}

-- each is a slot, and each slot with a view is one of them
pub record AreSlots (views : List (Option Posted)) (slots : List ℕ) : Type 0 where
  pub there : All (λ s. s < length views) slots
  pub all : (i : ℕ) (view : Posted) → slice_get views i ≡ Some (Some view) → Contains slots i

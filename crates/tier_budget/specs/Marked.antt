-- Marks with a list of the patches that have one.
use Rattle.std.specs.Prelude.{◌≡◌, ℕ, ◌<◌, ◌≤◌, Bool, true, List, length, slice_index}
use Rattle.std.specs.List.{count_by}
use Rattle.tier_model.specs.Places.{is_marked}

-- the patch stands in the list
pub record IsAmong (listed : List ℕ) (p : ℕ) : Type 0 where
  pub place : ℕ
  pub within : place < length listed
  pub there : slice_index listed place ≡ p

-- the list has exactly the marked patches
pub record AreListed (marks : List Bool) (listed : List ℕ) : Type 0 where
  pub patches : (i : ℕ) → i < length listed → slice_index listed i < length marks
  pub every : (p : ℕ) → is_marked marks p ≡ true → IsAmong listed p

-- the marked patches are listed once, and there is room to list all patches
pub record AreMarks (marks : List Bool) (listed : List ℕ) (room : ℕ) : Type 0 where
  pub are_listed : AreListed marks listed
  pub once : length listed ≡ count_by (λ m. m) marks
  pub roomy : length marks ≤ room

-- Tries in the order in which they were answered, each with its patch and the answered epoch.
use Rattle.std.specs.Prelude.{◌≡◌, ℕ, ◌≤◌, List, [], ◌∷◌, slice_index, All}

-- of one patch, the earlier try has at most the epoch of the later one
abbrev pub IsInOrder : ℕ × ℕ → ℕ × ℕ → Type 0
IsInOrder earlier later = later.0 ≡ earlier.0 → earlier.1 ≤ later.1

-- along the tries the epochs of one patch don't fall
unfoldable pub Rise : List (ℕ × ℕ) → Type 0
Rise [] = Unit {0}
Rise (earlier ∷ later) = All (IsInOrder earlier) later × Rise later

-- a try has at most the epoch that its patch has now
abbrev pub IsSeen : List ℕ → ℕ × ℕ → Type 0
IsSeen epochs try = try.1 ≤ slice_index epochs try.0

-- tries, in their order, of patches that have these epochs now
pub record AreTries (epochs : List ℕ) (tries : List (ℕ × ℕ)) : Type 0 where
  pub seen : All (IsSeen epochs) tries
  pub rise : Rise tries

-- Where the search for the least locked patch may begin.
use Rattle.std.specs.Prelude.{◌≡◌, ℕ, ◌<◌, ◌≤◌, Bool, false, List, length, slice_index_or}

-- no patch below it is locked
pub record IsStart (start : ℕ) (locked : List Bool) : Type 0 where
  pub within : start ≤ length locked
  pub down : (p : ℕ) → p < start → slice_index_or locked p false ≡ false

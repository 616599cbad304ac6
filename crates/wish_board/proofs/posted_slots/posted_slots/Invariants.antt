-- The slots before this one that have a view are listed.
use Rattle.std.proofs.Common.{◌≡◌, ℕ, ◌<◌, ◌≤◌, length, Some, All, Contains}
use Rattle.std.specs.Prelude.{slice_get}
use Rattle.arrayvec.specs.ArrayVec.{array_vec_len}
use Rattle.tier_model.specs.Ranks.{Posted}
use Rattle.wish_board.proofs.posted_slots.posted_slots.Given as goal

abbrev pub invariant-loop-slot : goal.invariant-loop-slot
invariant-loop-slot l = record {
  few : array_vec_len l.slots ≤ l.slot;
  there : All (λ s. s < length l.views) l.slots.items;
  all : (k : ℕ) (view : Posted) → k < l.slot → slice_get l.views k ≡ Some (Some view) → Contains l.slots.items k;
}

-- The greatest wish over the slots before this one is found.
use Rattle.std.proofs.Common.{◌≡◌, ◌≤◌, take, Some, All}
use Rattle.std.specs.Prelude.{slice_get}
use Rattle.tier_model.specs.Ranks.{Posted, view_wish, node_wish}
use Rattle.wish_board.proofs.maxima.greatest_wish.Given as goal

abbrev pub invariant-loop-slot : goal.invariant-loop-slot
invariant-loop-slot l = record {
  most : l.greatest ≤ node_wish l.views l.node;
  each : All (λ s. (view : Posted) → slice_get l.views s ≡ Some (Some view) → view_wish view l.node ≤ l.greatest) (take l.slot-index l.slots);
}

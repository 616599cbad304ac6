-- The patches before this one are released.
use Rattle.std.proofs.Common.{◌≡◌, ◌≤◌, ℕ, List, length, drop}
use Rattle.round_model.specs.Rounds.{has, with_member, frame_size}
use Rattle.cut_refiner.specs.RefinementStates.{IsWaiting, CanJoin}
use Rattle.cut_refiner.proofs.JoinLaws.{IsReleasing}
use Rattle.cut_refiner.proofs.refinement_states.RefinementState.join.Given as goal

abbrev pub invariant-loop-patch : goal.invariant-loop-patch
invariant-loop-patch l = record {
  set : l.self.growing.in_cut.items ≡ with_member l.fn.self.growing.in_cut.items l.node;
  size : l.self.growing.size ≡ frame_size (has (with_member l.fn.self.growing.in_cut.items l.node)) l.rules.mesh.index.fields;
  releasing : IsReleasing l.rules.mesh (with_member l.fn.self.growing.in_cut.items l.node) (drop l.patch-index l.patch-items) l.self.growing.missing.items;
  room : length l.rules.mesh.index.nodes ≤ l.self.candidates.room;
  waiting : (rest : List ℕ) → CanJoin l.rules rest l.fn.self l.node → IsWaiting l.rules rest l.self.growing.missing.items l.self.candidates.items;
}

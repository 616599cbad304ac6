-- The patches before this one are listed.
use Rattle.std.proofs.Common.{◌≡◌, ◌≤◌, length, take, vec_len, vec_capacity}
use Rattle.mesh_model.specs.Frames.{frame_patches}
use Rattle.round_model.specs.Rounds.{has}
use Rattle.cut_refiner.proofs.cut_lists.list_patches.Given as goal

abbrev pub invariant-loop-patch : goal.invariant-loop-patch
invariant-loop-patch l = record {
  items : l.patches.items ≡ frame_patches (has l.in_cut) (take l.patch l.fields);
  few : vec_len l.patches ≤ l.patch;
  room : length l.fields ≤ vec_capacity l.patches;
}

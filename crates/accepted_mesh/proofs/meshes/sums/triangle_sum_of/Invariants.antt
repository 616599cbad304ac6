-- The sum of the fields before this one, each of at most two bytes.
use Rattle.std.proofs.Common.{◌≡◌, ◌*◌, ◌≤◌, take}
use Rattle.mesh_model.specs.Frames.{triangles_in_all}
use Rattle.accepted_mesh.proofs.meshes.sums.triangle_sum_of.Given as goal

abbrev pub invariant-loop-field : goal.invariant-loop-field
invariant-loop-field l = record {
  sum : l.sum ≡ triangles_in_all (take l.field-index l.field-items);
  few : l.sum ≤ 65535 * l.field-index;
}

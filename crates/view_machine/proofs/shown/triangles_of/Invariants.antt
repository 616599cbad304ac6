-- The triangles of the bodies before this one.
use Rattle.std.proofs.Common.{◌≡◌, ◌*◌, ◌≤◌, length, map, take}
use Rattle.std.specs.Arc.{arc_value}
use Rattle.frame_writer.specs.Frames.{triangles_in}
use Rattle.view_machine.proofs.shown.triangles_of.Given as goal

abbrev pub invariant-loop-body : goal.invariant-loop-body
invariant-loop-body l = record {
  counts : l.count ≡ length (triangles_in (map arc_value (take l.body-index l.bodies)));
  few : l.count ≤ 4294967295 * l.body-index;
}

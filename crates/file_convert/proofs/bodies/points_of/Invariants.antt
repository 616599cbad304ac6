use Rattle.std.proofs.Common.{◌≡◌, take}
use Rattle.file_convert.proofs.bodies.points_of.Given as goal

abbrev pub invariant-loop-point : goal.invariant-loop-point
invariant-loop-point l = l.points.items ≡ take l.point l.body.lists.points

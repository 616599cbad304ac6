use Rattle.std.proofs.Common.{◌≡◌, map, take}
use Rattle.file_model.specs.Lists.{corners_of}
use Rattle.file_convert.proofs.bodies.corners_of.Given as goal

abbrev pub invariant-loop-triangle : goal.invariant-loop-triangle
invariant-loop-triangle l = map corners_of l.corners.items ≡ take l.triangle l.body.lists.corners

use Rattle.std.proofs.Common.{◌≡◌, ◌++◌, drop}
use Rattle.std.specs.List.{flat_map}
use Rattle.file_model.specs.Spelling.{point_text}
use Rattle.patch_body.proofs.spelling.push_points.Given as goal

-- what is there and what is still appended make the whole
abbrev pub invariant-loop-point : goal.invariant-loop-point
invariant-loop-point l = l.out.items ++ flat_map point_text (drop l.point-index l.points) ≡ l.fn.out.items ++ flat_map point_text l.points

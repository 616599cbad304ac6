use Rattle.std.proofs.Common.{◌≡◌, map, take}
use Rattle.frame_writer.specs.PointTexts.{shown_point}
use Rattle.frame_writer.proofs.body_lines.find_texts.Given as goal

abbrev pub invariant-loop-point : goal.invariant-loop-point
invariant-loop-point l = l.texts.items ≡ map shown_point (take l.point l.body.lists.points)

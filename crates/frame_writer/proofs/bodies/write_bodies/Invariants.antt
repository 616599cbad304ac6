use Rattle.std.proofs.Common.{map, take}
use Rattle.std.specs.Arc.{arc_value}
use Rattle.std.specs.List.{flat_map}
use Rattle.text_model.specs.FrameText.{triangle_line}
use Rattle.text_model.specs.Lines.{Adds}
use Rattle.frame_writer.specs.Frames.{triangles_in}
use Rattle.frame_writer.proofs.bodies.write_bodies.Given as goal

abbrev pub invariant-loop-body : goal.invariant-loop-body
invariant-loop-body l = Adds l.fn.out.items l.out.items (flat_map triangle_line (triangles_in (map arc_value (take l.body-index l.bodies))))

use Rattle.std.proofs.Common.{take}
use Rattle.std.specs.List.{flat_map}
use Rattle.file_model.specs.Lists.{triangles_of}
use Rattle.text_model.specs.FrameText.{triangle_line}
use Rattle.text_model.specs.Lines.{Adds}
use Rattle.frame_writer.proofs.body_lines.write_lines.Given as goal

abbrev pub invariant-loop-triangle : goal.invariant-loop-triangle
invariant-loop-triangle l = Adds l.fn.out.items l.out.items (flat_map triangle_line (take l.triangle (triangles_of l.body.lists)))

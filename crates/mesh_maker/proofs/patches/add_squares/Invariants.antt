use Rattle.std.proofs.Common.{◌≡◌, map}
use Rattle.std.specs.List.{range_with_len}
use Rattle.strip_laws.specs.Strip.{square}
use Rattle.mesh_maker.specs.Parts.{with_patches}
use Rattle.mesh_maker.proofs.patches.add_squares.Given as goal

abbrev pub invariant-loop-column : goal.invariant-loop-column
invariant-loop-column l = l.parts ≡ with_patches l.fn.parts (map square (range_with_len 0 l.column))

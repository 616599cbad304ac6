use Rattle.std.proofs.Common.{◌≡◌, map}
use Rattle.std.specs.List.{range_with_len}
use Rattle.strip_laws.specs.Strip.{square_node}
use Rattle.mesh_maker.specs.Parts.{with_nodes}
use Rattle.mesh_maker.proofs.nodes.add_squares.Given as goal

abbrev pub invariant-loop-column : goal.invariant-loop-column
invariant-loop-column l = l.parts ≡ with_nodes l.fn.parts (map square_node (range_with_len 0 l.column))

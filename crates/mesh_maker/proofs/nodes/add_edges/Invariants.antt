use Rattle.std.proofs.Common.{◌≡◌, ◌-◌, map}
use Rattle.std.specs.List.{range_with_len}
use Rattle.strip_laws.specs.Strip.{edge_node}
use Rattle.mesh_maker.specs.Parts.{with_nodes}
use Rattle.mesh_maker.proofs.nodes.add_edges.Given as goal

abbrev pub invariant-loop-edge : goal.invariant-loop-edge
invariant-loop-edge l = l.parts ≡ with_nodes l.fn.parts (map edge_node (range_with_len 1 (l.edge - 1)))

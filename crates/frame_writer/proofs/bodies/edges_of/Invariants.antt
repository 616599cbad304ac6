-- The bodies before this one were added.
use Rattle.std.proofs.Common.{◌*◌, ◌≤◌, map, take}
use Rattle.std.specs.Arc.{arc_value}
use Rattle.edge_chain.specs.Chains.{IsNetOf}
use Rattle.frame_writer.specs.Frames.{triangles_in}
use Rattle.frame_writer.proofs.bodies.edges_of.Given as goal

abbrev pub invariant-loop-body : goal.invariant-loop-body
invariant-loop-body l = record {
  few : l.chain.count ≤ 4294967295 * l.body-index;
  nets : IsNetOf (triangles_in (map arc_value (take l.body-index l.bodies))) l.chain;
}

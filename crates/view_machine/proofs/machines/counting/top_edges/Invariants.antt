-- The patches before this one were added.
use Rattle.std.proofs.Common.{◌*◌, ◌≤◌, map, take}
use Rattle.edge_chain.specs.Chains.{IsNetOf}
use Rattle.frame_writer.specs.Frames.{triangles_in}
use Rattle.run_model.specs.Lines.{top_body}
use Rattle.view_machine.proofs.machines.counting.top_edges.Given as goal

abbrev pub invariant-loop-patch : goal.invariant-loop-patch
invariant-loop-patch g l = record {
  few : l.edges.count ≤ 4294967295 * l.patch-index;
  nets : IsNetOf (triangles_in (map (top_body l.chain.tiers) (take l.patch-index l.patches))) l.edges;
}

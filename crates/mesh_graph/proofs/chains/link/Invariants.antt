use Rattle.std.proofs.Common.{◌≡◌, ◌≤◌, length}
use Rattle.mesh_graph.specs.Chains.{AreLinked}
use Rattle.mesh_graph.proofs.chains.link.Given as goal

-- the patches from here on are linked
abbrev pub invariant-loop-patch : goal.invariant-loop-patch
invariant-loop-patch l = record {
  linked : AreLinked l.side l.fields l.patch l.first.items l.next.items;
  nodes : length l.first.items ≡ l.nodes;
  patches : length l.next.items ≡ length l.fields;
  here : l.patch ≤ length l.fields;
}

abbrev pub decreases-loop-patch : goal.decreases-loop-patch
decreases-loop-patch l = l.patch

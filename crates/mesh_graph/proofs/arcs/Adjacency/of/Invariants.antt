use Rattle.std.proofs.Common.{◌≡◌, length}
use Rattle.mesh_graph.proofs.SpanLaws.{AreSpansOf}
use Rattle.mesh_graph.proofs.arcs.Adjacency.of.Given as goal

-- the spans of the nodes so far
abbrev pub invariant-loop-first : goal.invariant-loop-first
invariant-loop-first l = record {
  as_many : length l.spans.items ≡ l.first-index;
  spans : AreSpansOf l.fn.side l.fn.fields l.patches.items l.spans.items;
}

-- The nodes before this one have their numbers.
use Rattle.std.proofs.Common.{◌≡◌, ℕ, ◌<◌, ◌≤◌, length, get_or, vec_capacity}
use Rattle.mesh_model.specs.Graph.{incoming}
use Rattle.cut_refiner.proofs.growing_cuts.incoming_counts.Given as goal

abbrev pub invariant-loop-node : goal.invariant-loop-node
invariant-loop-node l = record {
  as_many : length l.counts.items ≡ l.node;
  room : l.nodes ≤ vec_capacity l.counts;
  each : (v : ℕ) → v < l.node → get_or l.counts.items v 0 ≡ length (incoming l.mesh.lists.index.fields v);
}

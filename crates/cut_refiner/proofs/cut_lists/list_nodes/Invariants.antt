-- The nodes before this one are listed.
use Rattle.std.proofs.Common.{◌≡◌, ◌≤◌, length, vec_len, vec_capacity}
use Rattle.mesh_model.specs.Graph.{nodes_where}
use Rattle.round_model.specs.Rounds.{has}
use Rattle.cut_refiner.proofs.cut_lists.list_nodes.Given as goal

abbrev pub invariant-loop-node : goal.invariant-loop-node
invariant-loop-node l = record {
  items : l.nodes.items ≡ nodes_where l.node (has l.in_cut);
  few : vec_len l.nodes ≤ l.node;
  room : length l.in_cut ≤ vec_capacity l.nodes;
}

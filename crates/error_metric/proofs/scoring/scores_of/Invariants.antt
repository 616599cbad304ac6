-- The nodes before this one have their scores.
use Rattle.std.proofs.Common.{◌≡◌, ◌≤◌, take, vec_len, vec_capacity}
use Rattle.error_metric.proofs.scoring.scores_of.Given as goal

abbrev pub invariant-loop-node : goal.invariant-loop-node
invariant-loop-node g l = record {
  items : l.scores.items ≡ take l.node (g.W.Want.scores l.want l.mesh.lists);
  few : vec_len l.scores ≤ l.node;
  room : l.nodes ≤ vec_capacity l.scores;
}

-- The nodes before this one have their sums.
use Rattle.std.proofs.Common.{◌≡◌, length}
use Rattle.dag_check.specs.AllNodeSums.{AreNew}
use Rattle.dag_check.proofs.inner.new_node_sums.Given as goal

abbrev pub invariant-loop-node : goal.invariant-loop-node
invariant-loop-node l = record {
  as_many : length l.node_sums.items ≡ l.node;
  new : AreNew l.index.fields l.node_sums.items;
}

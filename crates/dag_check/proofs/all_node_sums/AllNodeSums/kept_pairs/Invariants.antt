-- The nodes before this one are counted.
use Rattle.std.proofs.Common.{◌≡◌, take}
use Rattle.dag_check.specs.AllNodeSums.{pairs_in_all}
use Rattle.dag_check.proofs.all_node_sums.AllNodeSums.kept_pairs.Given as goal

abbrev pub invariant-loop-node_sums : goal.invariant-loop-node_sums
invariant-loop-node_sums l = l.kept ≡ pairs_in_all (take l.node_sums-index l.self.node_sums.items)

-- The pairs of the nodes so far and of one more fit.
use Rattle.std.proofs.Common.{arith}
use Rattle.dag_check.specs.AllNodeSums.{all_sums_of}
use Rattle.dag_check.proofs.SumLaws.{few_with_next}
use Rattle.dag_check.proofs.all_node_sums.AllNodeSums.kept_pairs.Goals as goal

pub kept_pairs-kept-requires : goal.kept_pairs-kept-requires
kept_pairs-kept-requires c =
    omega (arith, few_with_next (all_sums_of c.args.self.now) c.requires c.deref-node_sums-items.result.now c.loop-node_sums.node_sums-index c.node_sums-item.result c.deref-node_sums-items.ensures.value c.loop-node_sums-test.true c.node_sums-item.is)

pub overflow_add-kept : goal.overflow_add-kept
overflow_add-kept c =
    omega (arith, few_with_next (all_sums_of c.args.self.now) c.requires c.deref-node_sums-items.result.now c.loop-node_sums.node_sums-index c.node_sums-item.result c.deref-node_sums-items.ensures.value c.loop-node_sums-test.true c.node_sums-item.is, c.kept_pairs-kept.ensures, c.loop-node_sums.invariant)

-- One node's sums more.
use Rattle.std.proofs.Common.{List, [], ◌∷◌, ◌∙◌, length, length-append, sym, ap, subst, arith}
use Rattle.dag_check.specs.declared.node_sums.NodeSums.{NodeSums}
use Rattle.dag_check.specs.NodeSums.{empty_node_sums, inner_patches}
use Rattle.dag_check.specs.AllNodeSums.{AreNew}
use Rattle.dag_check.proofs.StartLaws.{new_push}
use Rattle.dag_check.proofs.inner.new_node_sums.Goals as goal

pub loop-node-preserved : goal.loop-node-preserved
loop-node-preserved c =
    let so_far : List NodeSums = c.loop-node.node_sums.items in
    record {
      as_many = omega (arith, ap length c.in_ok-push.ensures.items, length-append so_far (c.new.result ∷ []), c.loop-node.invariant.as_many);
      new = subst (λ (ts : List NodeSums). AreNew c.args.index.now.fields ts) (sym c.in_ok-push.ensures.items)
          (new_push c.args.index.now.fields so_far c.new.result
          (c.new.ensures ∙ ap empty_node_sums (c.patches_of-total.ensures ∙ ap (inner_patches c.args.index.now.fields) (sym c.loop-node.invariant.as_many))) c.loop-node.invariant.new);
    }

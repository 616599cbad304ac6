-- An inner node's patches are counted on both sides.
use Rattle.std.proofs.Common.{◌≡◌, ℕ, ◌+◌, length, ap, ◌∙◌, sym, arith, Bool, true, if◌then◌else◌}
use Rattle.mesh_model.specs.Accepted.{is_inner}
use Rattle.dag_check.specs.NodeSums.{to_come, taken_both}
use Rattle.dag_check.proofs.IndexLaws.{incoming_has, outgoing_has}
use Rattle.dag_check.proofs.inner.patches_of.Goals as goal

pub overflow_cast-result : goal.overflow_cast-result
overflow_cast-result c = omega (arith, (incoming_has c.args.index.now c.args.graph.now c.args.node c.incoming.result.now c.patch_count-count.ensures.rules c.requires.graph c.requires.node c.incoming.ensures).few)

pub overflow_cast-result-2 : goal.overflow_cast-result-2
overflow_cast-result-2 c = omega (arith, (outgoing_has c.args.index.now c.args.graph.now c.args.node c.outgoing.result.now c.patch_count-count.ensures.rules c.requires.graph c.requires.node c.outgoing.ensures).few)

pub overflow_add-result : goal.overflow_add-result
overflow_add-result c =
    omega (
      arith,
      (incoming_has c.args.index.now c.args.graph.now c.args.node c.incoming.result.now c.patch_count-count.ensures.rules c.requires.graph c.requires.node c.incoming.ensures).few,
      (outgoing_has c.args.index.now c.args.graph.now c.args.node c.outgoing.result.now c.patch_count-count.ensures.rules c.requires.graph c.requires.node c.outgoing.ensures).few,
    )

pub returns : goal.returns
returns c =
    let patches : ℕ = to_come c.args.index.now.fields (taken_both 0) c.args.node in
    let counted : length c.incoming.result.now + length c.outgoing.result.now ≡ patches = omega (
      arith,
      (incoming_has c.args.index.now c.args.graph.now c.args.node c.incoming.result.now c.patch_count-count.ensures.rules c.requires.graph c.requires.node c.incoming.ensures).count_is,
      (outgoing_has c.args.index.now c.args.graph.now c.args.node c.outgoing.result.now c.patch_count-count.ensures.rules c.requires.graph c.requires.node c.outgoing.ensures).count_is,
    ) in
    let inner : is_inner c.args.index.now.fields c.args.node ≡ true = sym (c.is_inner_node.ensures c.args.index.now c.requires.graph) ∙ c.if-not-is_inner_node.false in
    counted ∙ ap (λ (b : Bool). if b then patches else 0) (sym inner)

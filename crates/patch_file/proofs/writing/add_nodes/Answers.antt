use Rattle.std.proofs.Common.{arith}
use Rattle.file_model.specs.Spelling.{node_text}
use Rattle.patch_file.specs.Batches.{Sent-none}
use Rattle.patch_file.proofs.Appending.{Sends-failed, item_sent, item_part, all_sent}
use Rattle.patch_file.proofs.writing.add_nodes.Goals as goal

pub loop-node-init : goal.loop-node-init
loop-node-init g c = record { text = Sent-none _ _; later = omega arith }

pub returns-in_err-add-clause-text : goal.returns-in_err-add-clause-text
returns-in_err-add-clause-text g c =
    Sends-failed c.from_residual.result _ _ _ _ _ c.from_residual.ensures.0 (item_part node_text c.args.nodes.now c.loop-node.node-index _ _ _ _ _ _ _ c.loop-node-test.true c.node_bytes.ensures c.loop-node.invariant.text c.in_err-add.ensures.text)

pub loop-node-preserved : goal.loop-node-preserved
loop-node-preserved g c = record {
  text = item_sent node_text c.args.nodes.now c.loop-node.node-index _ _ _ _ _ _ _ _ c.loop-node-test.true c.node_bytes.ensures c.loop-node.invariant.text c.in_ok-add.ensures.text;
  later = omega (arith, c.loop-node.invariant.later, c.in_ok-add.ensures.later);
}

pub returns-clause-text : goal.returns-clause-text
returns-clause-text g c = all_sent node_text c.args.nodes.now c.loop-node.node-index _ _ _ _ (omega (arith, c.loop-node-test.false)) c.loop-node.invariant.text

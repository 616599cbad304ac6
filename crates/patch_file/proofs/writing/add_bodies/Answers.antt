use Rattle.std.proofs.Common.{ap, ◌∙◌, arith}
use Rattle.file_model.specs.Lists.{SeenBody}
use Rattle.patch_file.specs.Batches.{Sent-none}
use Rattle.patch_file.proofs.Appending.{Sends-failed, item_sent, item_part, all_sent}
use Rattle.patch_file.proofs.writing.add_bodies.Goals as goal

pub loop-body-init : goal.loop-body-init
loop-body-init g c = record { text = Sent-none _ _; later = omega arith }

pub returns-in_err-add-clause-text : goal.returns-in_err-add-clause-text
returns-in_err-add-clause-text g c =
    Sends-failed c.from_residual.result _ _ _ _ _ c.from_residual.ensures.0 (item_part (λ (b : SeenBody). b.bytes) c.args.bodies.now c.loop-body.body-index _ _ _ _ _ _ _ c.loop-body-test.true (c.bytes.ensures ∙ ap (λ (b : SeenBody). b.bytes) c.body-item.is) c.loop-body.invariant.text c.in_err-add.ensures.text)

pub loop-body-preserved : goal.loop-body-preserved
loop-body-preserved g c = record {
  text = item_sent (λ (b : SeenBody). b.bytes) c.args.bodies.now c.loop-body.body-index _ _ _ _ _ _ _ _ c.loop-body-test.true (c.bytes.ensures ∙ ap (λ (b : SeenBody). b.bytes) c.body-item.is) c.loop-body.invariant.text c.in_ok-add.ensures.text;
  later = omega (arith, c.loop-body.invariant.later, c.in_ok-add.ensures.later);
}

pub returns-clause-text : goal.returns-clause-text
returns-clause-text g c = all_sent (λ (b : SeenBody). b.bytes) c.args.bodies.now c.loop-body.body-index _ _ _ _ (omega (arith, c.loop-body-test.false)) c.loop-body.invariant.text

use Rattle.std.proofs.Common.{arith}
use Rattle.file_model.specs.Spelling.{field_text}
use Rattle.patch_file.specs.Batches.{Sent-none}
use Rattle.patch_file.proofs.Appending.{Sends-failed, item_sent, item_part, all_sent}
use Rattle.patch_file.proofs.writing.add_fields.Goals as goal

pub loop-field-init : goal.loop-field-init
loop-field-init g c = record { text = Sent-none _ _; later = omega arith }

pub returns-in_err-add-clause-text : goal.returns-in_err-add-clause-text
returns-in_err-add-clause-text g c =
    Sends-failed c.from_residual.result _ _ _ _ _ c.from_residual.ensures.0 (item_part field_text c.args.fields.now c.loop-field.field-index _ _ _ _ _ _ _ c.loop-field-test.true c.field_bytes.ensures c.loop-field.invariant.text c.in_err-add.ensures.text)

pub loop-field-preserved : goal.loop-field-preserved
loop-field-preserved g c = record {
  text = item_sent field_text c.args.fields.now c.loop-field.field-index _ _ _ _ _ _ _ _ c.loop-field-test.true c.field_bytes.ensures c.loop-field.invariant.text c.in_ok-add.ensures.text;
  later = omega (arith, c.loop-field.invariant.later, c.in_ok-add.ensures.later);
}

pub returns-clause-text : goal.returns-clause-text
returns-clause-text g c = all_sent field_text c.args.fields.now c.loop-field.field-index _ _ _ _ (omega (arith, c.loop-field-test.false)) c.loop-field.invariant.text

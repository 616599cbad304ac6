use Rattle.std.proofs.Common.{arith}
use Rattle.patch_file.proofs.BodySizes.{end_more, HasOffsets-none, HasOffsets-more, bodies_size-nil}
use Rattle.patch_file.proofs.sizes.offsets_of.Goals as goal

pub loop-field-init : goal.loop-field-init
loop-field-init c = record {
  offsets = rw c.in_ok-offsets.ensures.items (HasOffsets-none c.args.version c.args.start);
  end = omega (arith, bodies_size-nil c.args.version);
  short = omega arith;
}

pub loop-field-preserved : goal.loop-field-preserved
loop-field-preserved c = record {
  offsets = rw c.in_ok-push.ensures.items (HasOffsets-more c.args.version c.args.start c.args.fields.now c.loop-field.field-index c.loop-field.end c.loop-field.offsets.items c.loop-field-test.true c.loop-field.invariant.end c.loop-field.invariant.offsets);
  end = end_more c.args.version c.args.start c.args.fields.now c.loop-field.field-index c.loop-field.end c.body_size-end.result _ c.loop-field-test.true c.body_size-end.ensures.value c.loop-field.invariant.end;
  short = omega (arith, c.loop-field.invariant.short, c.body_size-end.ensures.short);
}

use Rattle.file_model.specs.Reading.{field_at}
use Rattle.patch_file.proofs.Many.{goes_on, stops, is_done}
use Rattle.patch_file.proofs.fields.fields_of.Goals as goal

pub returns-in-Err-clause-exact : goal.returns-in-Err-clause-exact
returns-in-Err-clause-exact c = stops (field_at c.args.nodes c.args.end) c.loop-patch.fields.items c.args.count c.loop-patch.patch c.loop-patch.rest.now c.in-Err.fault _ c.loop-patch-test.true c.in-Err.ensures c.loop-patch.invariant

pub loop-patch-preserved : goal.loop-patch-preserved
loop-patch-preserved c = rw c.in_ok-push-in-Ok.ensures.items (goes_on (field_at c.args.nodes c.args.end) c.loop-patch.fields.items c.args.count c.loop-patch.patch c.loop-patch.rest.now c.in-Ok.field c.in-Ok.after.now _ c.loop-patch-test.true c.in-Ok.ensures c.loop-patch.invariant)

pub returns-clause-exact : goal.returns-clause-exact
returns-clause-exact c = is_done (field_at c.args.nodes c.args.end) c.loop-patch.fields.items c.args.count c.loop-patch.patch c.loop-patch.rest.now _ c.loop-patch-test.false c.loop-patch.invariant

use Rattle.file_model.specs.Reading.{node_at}
use Rattle.patch_file.proofs.Many.{goes_on, stops, is_done}
use Rattle.patch_file.proofs.fields.nodes_of.Goals as goal

pub returns-in-Err-clause-exact : goal.returns-in-Err-clause-exact
returns-in-Err-clause-exact c = stops (node_at c.args.end) c.loop-v.nodes.items c.args.count c.loop-v.v c.loop-v.rest.now c.in-Err.fault _ c.loop-v-test.true c.in-Err.ensures c.loop-v.invariant

pub loop-v-preserved : goal.loop-v-preserved
loop-v-preserved c = rw c.in_ok-push-in-Ok.ensures.items (goes_on (node_at c.args.end) c.loop-v.nodes.items c.args.count c.loop-v.v c.loop-v.rest.now c.in-Ok.node c.in-Ok.after.now _ c.loop-v-test.true c.in-Ok.ensures c.loop-v.invariant)

pub returns-clause-exact : goal.returns-clause-exact
returns-clause-exact c = is_done (node_at c.args.end) c.loop-v.nodes.items c.args.count c.loop-v.v c.loop-v.rest.now _ c.loop-v-test.false c.loop-v.invariant

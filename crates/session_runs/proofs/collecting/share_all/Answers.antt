use Rattle.session_runs.specs.Bodies.{one_added}
use Rattle.session_runs.proofs.collecting.share_all.Goals as goal

pub loop-patch-preserved : goal.loop-patch-preserved
loop-patch-preserved g c =
    one_added g.N.Naming.setup c.args.patches.now c.loop-patch.patch-index _ _ c.args.bodies.now c.loop-patch.bodies c.add.new.self c.loop-patch-test.true c.loop-patch.invariant c.in_ok-body.ensures c.add.ensures

use Rattle.std.specs.Arc.{arc_value}
use Rattle.view_machine.specs.FrameLines.{one_body_more}
use Rattle.view_machine.proofs.machines.frames.shared_bodies.Goals as goal

pub loop-patch-preserved : goal.loop-patch-preserved
loop-patch-preserved g c =
    one_body_more arc_value c.args.chain.now.tiers c.args.patches.now c.loop-patch.patch-index _ c.loop-patch.bodies.items c.push.new.self.items c.in_ok-body.body c.loop-patch-test.true c.loop-patch.invariant c.in_ok-body.ensures c.in_ok-push.ensures.items

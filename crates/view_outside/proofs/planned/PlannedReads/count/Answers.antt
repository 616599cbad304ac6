use Rattle.view_outside.specs.Planned.{read_after}
use Rattle.view_outside.proofs.Steps.{changed_one_more}
use Rattle.view_outside.proofs.planned.PlannedReads.count.Goals as goal

pub loop-read-preserved : goal.loop-read-preserved
loop-read-preserved c =
    changed_one_more (read_after c.args.offset) _ _ _ (0, 0) _ c.loop-read-test.true c.loop-read.auto.read-items c.loop-read.invariant c.nearer.ensures

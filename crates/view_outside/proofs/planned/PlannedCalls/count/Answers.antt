use Rattle.std.proofs.Common.{◌-◌}
use Rattle.view_outside.proofs.Steps.{changed_one_more}
use Rattle.view_outside.proofs.planned.PlannedCalls.count.Goals as goal

pub loop-away-preserved : goal.loop-away-preserved
loop-away-preserved c =
    changed_one_more (λ n. n - 1) _ _ _ 0 _ c.loop-away-test.true c.loop-away.auto.away-items c.loop-away.invariant c.saturating_sub.ensures

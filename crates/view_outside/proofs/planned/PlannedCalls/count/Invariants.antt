use Rattle.std.proofs.Common.{◌≡◌, ◌++◌, take, drop}
use Rattle.view_outside.specs.Planned.{calls_after}
use Rattle.view_outside.proofs.planned.PlannedCalls.count.Given as goal

abbrev pub invariant-loop-away : goal.invariant-loop-away
invariant-loop-away l = l.away-items ≡ calls_after (take l.away-index l.initial.away-items) ++ drop l.away-index l.initial.away-items

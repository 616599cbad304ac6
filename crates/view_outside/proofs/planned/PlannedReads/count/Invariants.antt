use Rattle.std.proofs.Common.{◌≡◌, ◌++◌, take, drop}
use Rattle.view_outside.specs.Planned.{reads_after}
use Rattle.view_outside.proofs.planned.PlannedReads.count.Given as goal

abbrev pub invariant-loop-read : goal.invariant-loop-read
invariant-loop-read l = l.read-items ≡ reads_after l.offset (take l.read-index l.initial.read-items) ++ drop l.read-index l.initial.read-items

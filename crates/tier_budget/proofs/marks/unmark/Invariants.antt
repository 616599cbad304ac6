-- Only patches that are still to be walked are marked.
use Rattle.std.proofs.Common.{◌≡◌, length}
use Rattle.tier_budget.proofs.MarkSteps.{AreLast}
use Rattle.tier_budget.proofs.marks.unmark.Given as goal

abbrev pub invariant-loop-patch : goal.invariant-loop-patch
invariant-loop-patch l = record { sized : length l.marks ≡ length l.fn.marks; last : AreLast l.marks l.listed l.patch-index }

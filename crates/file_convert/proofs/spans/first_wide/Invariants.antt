use Rattle.std.proofs.Common.{map}
use Rattle.std.specs.Arc.{arc_value}
use Rattle.file_convert.specs.Held.{lists_of}
use Rattle.file_convert.proofs.Fitting.{FirstFit}
use Rattle.file_convert.proofs.spans.first_wide.Given as goal

abbrev pub invariant-loop-patch : goal.invariant-loop-patch
invariant-loop-patch l = FirstFit (lists_of (map arc_value l.bodies)) l.patch

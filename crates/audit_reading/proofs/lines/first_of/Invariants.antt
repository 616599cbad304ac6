use Rattle.std.proofs.Common.{◌≡◌, false, take}
use Rattle.audit_lines.specs.Places.{has_line_feed}
use Rattle.audit_reading.proofs.lines.first_of.Given as goal

abbrev pub invariant-loop-at : goal.invariant-loop-at
invariant-loop-at l = has_line_feed (take l.at l.text) ≡ false

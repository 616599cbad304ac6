use Rattle.std.proofs.Common.{◌≡◌, ◌-◌}
use Rattle.audit_lines.specs.Places.{line_ahead}
use Rattle.audit_reading.proofs.readers.TextReader.ahead.Given as goal

abbrev pub invariant-loop-passed : goal.invariant-loop-passed
invariant-loop-passed l = line_ahead l.lines l.self.rest l.number ≡ line_ahead (l.lines - l._passed) l.rest l.number

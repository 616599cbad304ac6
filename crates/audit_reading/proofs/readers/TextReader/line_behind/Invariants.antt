use Rattle.audit_reading.proofs.Meeting.{IsMeeting}
use Rattle.audit_reading.proofs.readers.TextReader.line_behind.Given as goal

abbrev pub invariant-loop-at : goal.invariant-loop-at
invariant-loop-at l = IsMeeting l.text l.self.rest l.self.line l.at l.line

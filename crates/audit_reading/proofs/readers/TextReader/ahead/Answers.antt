use Rattle.std.proofs.Common.{◌+◌, ◌∙◌}
use Rattle.audit_reading.proofs.LinesAhead.{line_passed}
use Rattle.audit_reading.proofs.readers.TextReader.ahead.Goals as goal

pub loop-passed-preserved : goal.loop-passed-preserved
loop-passed-preserved c =
    let number = c.args.lines + c.self.inside.line in
    let first = c.in-Some.first in
    c.loop-passed.invariant
    ∙ line_passed c.args.lines c.loop-passed._passed c.loop-passed.rest.now number
    (record { line = first.line.now; rest = first.rest.now }) c.loop-passed-test.true c.in-Some.ensures

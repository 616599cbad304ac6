use Rattle.std.proofs.Common.{sym}
use Rattle.frame_writer.proofs.LineLemmas.{begins_line-last}
use Rattle.frame_writer.proofs.lines.at_line_start.Goals as goal

pub returns-in-Some : goal.returns-in-Some
returns-in-Some c = sym (begins_line-last c.args.text.now c.in-Some.last.now (sym c.in-Some.ensures.value))

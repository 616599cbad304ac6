use Rattle.std.proofs.Common.{map}
use Rattle.frame_writer.specs.Appending.{Adds-line}
use Rattle.frame_writer.specs.Parts.{part_text}
use Rattle.std.proofs.lemmas.Result.{on_ok_weaker}
use Rattle.frame_writer.proofs.lines.write_line.Goals as goal

pub returns-clause-ok : goal.returns-clause-ok
returns-clause-ok c = on_ok_weaker c.end_line.result (Adds-line (map part_text c.args.parts.now) c.in_ok-begin_line.ensures.ok c.in_ok-write_parts.ensures.ok) c.end_line.ensures.ok

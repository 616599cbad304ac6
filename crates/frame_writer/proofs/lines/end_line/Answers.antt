use Rattle.std.proofs.Common.{◌∙◌, ap}
use Rattle.text_model.specs.Lines.{begins_line}
use Rattle.frame_writer.specs.Ending.{begins_line-end}
use Rattle.frame_writer.proofs.lines.end_line.Goals as goal

pub returns-clause-ended : goal.returns-clause-ended
returns-clause-ended c = ap begins_line c.in_ok-push.ensures.items ∙ begins_line-end c.args.out.now.items

use Rattle.std.proofs.Common.{◌∙◌}
use Rattle.file_convert.proofs.Origins.{fold-first}
use Rattle.file_convert.proofs.spans.origin_of.Goals as goal

pub returns-in-len1-up : goal.returns-in-len1-up
returns-in-len1-up c = c.lowest.ensures ∙ fold-first c.args.points.now _ c.in-len1-up.len_at_least

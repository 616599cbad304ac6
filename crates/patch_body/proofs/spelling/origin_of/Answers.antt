use Rattle.std.proofs.Common.{◌∙◌}
use Rattle.patch_body.proofs.Origins.{fold-first}
use Rattle.patch_body.proofs.spelling.origin_of.Goals as goal

pub returns-in-len1-up : goal.returns-in-len1-up
returns-in-len1-up c = c.lowest.ensures ∙ fold-first c.args.points.now _ c.in-len1-up.len_at_least

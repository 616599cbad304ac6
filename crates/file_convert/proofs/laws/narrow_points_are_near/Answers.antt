use Rattle.file_convert.specs.Spans.{narrow_is_near}
use Rattle.file_convert.proofs.laws.narrow_points_are_near.Goals as goal

pub returns : goal.returns
returns c = narrow_is_near

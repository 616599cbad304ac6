use Rattle.view_planes.specs.Behind.{behind_within}
use Rattle.view_planes.specs.Culling.{culled_within}
use Rattle.view_planes.proofs.a_ball_behind_holds_nothing_else.Goals as goal

pub returns-clause-behind : goal.returns-clause-behind
returns-clause-behind c = behind_within

pub returns-clause-culled : goal.returns-clause-culled
returns-clause-culled c = culled_within

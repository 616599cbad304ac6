use Rattle.ray_pick.specs.HitLaws.{above_is_one, below_is_one}
use Rattle.ray_pick.proofs.a_triangle_is_hit_once.Goals as goal

pub returns-clause-above : goal.returns-clause-above
returns-clause-above c = above_is_one

pub returns-clause-below : goal.returns-clause-below
returns-clause-below c = below_is_one

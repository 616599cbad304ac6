use Rattle.ray_pick.specs.OnePick.{pick_is_one}
use Rattle.ray_pick.proofs.a_ray_has_one_pick.Goals as goal

pub returns : goal.returns
returns c = pick_is_one

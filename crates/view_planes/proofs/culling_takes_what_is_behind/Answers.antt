use Rattle.view_planes.specs.CulledCuts.{culled_cut}
use Rattle.view_planes.proofs.culling_takes_what_is_behind.Goals as goal

pub returns : goal.returns
returns c = culled_cut

use Rattle.strip_laws.specs.StripFrames.{inner_is_cut, inner_patch_count, inner_triangle_count}
use Rattle.strip_laws.proofs.finest_frame_of_the_strip.Goals as goal

pub returns-clause-cut : goal.returns-clause-cut
returns-clause-cut c = inner_is_cut

pub returns-clause-patches : goal.returns-clause-patches
returns-clause-patches c = inner_patch_count

pub returns-clause-triangles : goal.returns-clause-triangles
returns-clause-triangles c = inner_triangle_count

use Rattle.strip_laws.specs.StripFrames.{base_patch_count, base_triangle_count}
use Rattle.strip_laws.proofs.base_of_the_strip.Goals as goal

pub returns-clause-patches : goal.returns-clause-patches
returns-clause-patches c = base_patch_count

pub returns-clause-triangles : goal.returns-clause-triangles
returns-clause-triangles c = base_triangle_count

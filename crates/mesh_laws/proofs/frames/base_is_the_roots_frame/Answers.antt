use Rattle.mesh_laws.specs.Bases.{base_is_cut, base_patches, base_triangles}
use Rattle.mesh_laws.proofs.frames.base_is_the_roots_frame.Goals as goal

pub returns-clause-cut : goal.returns-clause-cut
returns-clause-cut c = base_is_cut

pub returns-clause-patches : goal.returns-clause-patches
returns-clause-patches c = base_patches

pub returns-clause-triangles : goal.returns-clause-triangles
returns-clause-triangles c = base_triangles

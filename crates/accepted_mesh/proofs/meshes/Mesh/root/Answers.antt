use Rattle.accepted_mesh.specs.MeshLaws.{mesh_is}
use Rattle.accepted_mesh.proofs.meshes.Mesh.root.Goals as goal

pub returns-clause-facts : goal.returns-clause-facts
returns-clause-facts c = rw (← c.self.view_is) (mesh_is _ _ _ c.self.invariant.0)

-- What holds of the rules of a round.
use Rattle.std.specs.Prelude.{◌≡◌, length}
use Rattle.mesh_model.specs.Meshes.{IsMesh}
use Rattle.round_model.specs.Order.{Rules}
use Rattle.round_laws.specs.Parents.{FallsAlong}

-- the mesh is accepted, and each node has a score, which doesn't rise along arcs
pub record AreRules (rules : Rules) : Type 0 where
  pub mesh : IsMesh rules.mesh
  pub falls : FallsAlong rules
  pub as_many : length rules.scores ≡ length rules.mesh.index.nodes

use Rattle.mesh_graph.specs.Levels.{level_is_one, level_grounds}
use Rattle.mesh_graph.proofs.graph.levels_are_unique.Goals as goal

pub returns : goal.returns
returns c = record { one = level_is_one; grounded = level_grounds }

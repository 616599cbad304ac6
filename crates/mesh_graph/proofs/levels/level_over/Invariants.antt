use Rattle.std.proofs.Common.{take}
use Rattle.mesh_graph.specs.Levels.{IsLevelOver}
use Rattle.mesh_graph.proofs.levels.level_over.Given as goal

-- the level over the patches so far
abbrev pub invariant-loop-patch : goal.invariant-loop-patch
invariant-loop-patch l = IsLevelOver l.fields l.levels (take l.patch-index l.patches) l.level

use Rattle.std.proofs.Common.{◌≡◌, ◌++◌, map, take}
use Rattle.mesh_graph.specs.Levels.{head_of}
use Rattle.mesh_graph.proofs.levels.push_heads.Given as goal

-- the heads of the patches so far
abbrev pub invariant-loop-patch : goal.invariant-loop-patch
invariant-loop-patch l = l.waiting.items ≡ l.fn.waiting.items ++ map (head_of l.fields) (take l.patch-index l.patches)

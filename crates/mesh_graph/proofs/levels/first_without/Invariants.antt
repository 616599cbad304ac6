use Rattle.std.proofs.Common.{◌≡◌, ℕ, ◌<◌, Some, None}
use Rattle.std.specs.List.{slice_get}
use Rattle.mesh_graph.proofs.levels.first_without.Given as goal

-- the nodes so far have levels
abbrev pub invariant-loop-node : goal.invariant-loop-node
invariant-loop-node l = (v : ℕ) → v < l.node → slice_get l.levels v ≡ Some None → ⊥

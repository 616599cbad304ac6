-- It is the greatest degree of the nodes before this one.
use Rattle.std.proofs.Common.{◌≡◌, ℕ, ◌<◌, ◌≤◌, length}
use Rattle.accepted_mesh.specs.MeshView.{degree}
use Rattle.accepted_mesh.proofs.meshes.degrees.greatest_degree_of.Given as goal

abbrev pub invariant-loop-node : goal.invariant-loop-node
invariant-loop-node l = record {
  most : (v : ℕ) → v < l.node → degree l.index.fields v ≤ l.greatest;
  some : 0 < l.greatest → (v : ℕ) × (v < length l.index.nodes) × (degree l.index.fields v ≡ l.greatest);
}

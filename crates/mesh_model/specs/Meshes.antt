-- An accepted mesh without its bodies.
use Rattle.std.specs.Prelude.{◌≡◌, ℕ, List, length, slice_get, Some}
use Rattle.file_model.specs.Lists.{IndexLists}
use Rattle.file_model.specs.Rules.{IsIndex}
use Rattle.mesh_model.specs.Walks.{IsLevel}
use Rattle.mesh_model.specs.Accepted.{IsNestedGraph}

-- what stands before the bodies, the root, and each node's level
pub record MeshLists : Type 0 where
  pub index : IndexLists
  pub root : ℕ
  pub levels : List ℕ

-- what acceptance says of it
pub record IsMesh (mesh : MeshLists) : Type 0 where
  pub rules : IsIndex mesh.index
  pub graph : IsNestedGraph mesh.index mesh.root
  pub as_many : length mesh.levels ≡ length mesh.index.nodes
  pub are_levels : (v level : ℕ) → slice_get mesh.levels v ≡ Some level → IsLevel mesh.index.fields v level

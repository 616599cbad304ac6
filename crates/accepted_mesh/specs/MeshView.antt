-- What callers see of an accepted mesh.
use Rattle.std.specs.Prelude.{◌≡◌, ℕ, ◌<◌, ◌≤◌, List, length, map, Option, unwrap_or}
use Rattle.file_model.specs.declared.fields.PatchField.{PatchField}
use Rattle.file_model.specs.Lists.{IndexLists, FileLists}
use Rattle.file_model.specs.Rules.{IsIndex}
use Rattle.mesh_model.specs.Accepted.{IsAccepted, IsNestedGraph, triangles_out_of}
use Rattle.mesh_model.specs.Frames.{triangles_in_all}
use Rattle.mesh_model.specs.Graph.{outgoing}
use Rattle.mesh_model.specs.Meshes.{MeshLists, IsMesh}
use Rattle.mesh_model.specs.Nets.{HasOpenPairs}
use Rattle.mesh_graph.specs.Graphs.{GraphSeen, IsGraphOf}

-- the mesh without its bodies, and the number of open pairs of its base
pub record MeshSeen : Type 0 where
  pub lists : MeshLists
  pub base_open : ℕ

-- the mesh is the accepted file's
pub record IsMeshOf (file : FileLists) (mesh : MeshSeen) : Type 0 where
  pub index : file.index ≡ mesh.lists.index
  pub accepted : IsAccepted file mesh.lists.root
  pub facts : IsMesh mesh.lists
  pub base : HasOpenPairs (triangles_out_of file mesh.lists.root) mesh.base_open

-- each node's level, and 0 where it has none
abbrev pub levels_of : List (Option ℕ) → List ℕ
levels_of levels = map (λ level. unwrap_or level 0) levels

abbrev pub mesh_lists : IndexLists → GraphSeen → ℕ → MeshLists
mesh_lists index graph root = record { index = index; root = root; levels = levels_of graph.levels }

abbrev pub mesh_seen : IndexLists → GraphSeen → ℕ → ℕ → MeshSeen
mesh_seen index graph root base_open = record { lists = mesh_lists index graph root; base_open = base_open }

-- what holds of what a mesh is made of
pub record IsMeshState (index : IndexLists) (seen : GraphSeen) (root : ℕ) : Type 0 where
  pub rules : IsIndex index
  pub graph : IsGraphOf index seen
  pub nested : IsNestedGraph index root

-- how many patches lead from the node
abbrev pub degree : List PatchField → ℕ → ℕ
degree fields v = length (outgoing fields v)

-- no node has more patches that lead from it than so many, and unless that is 0 one has as many
pub record IsGreatestDegree (index : IndexLists) (greatest : ℕ) : Type 0 where
  pub most : (v : ℕ) → v < length index.nodes → degree index.fields v ≤ greatest
  pub some : 0 < greatest → (v : ℕ) × (v < length index.nodes) × (degree index.fields v ≡ greatest)

-- what a mesh counts once
pub record AreTotals (index : IndexLists) (triangle_sum greatest_degree : ℕ) : Type 0 where
  pub triangles : triangle_sum ≡ triangles_in_all index.fields
  pub degrees : IsGreatestDegree index greatest_degree

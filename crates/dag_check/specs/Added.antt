-- The bodies that were added, and what is open of them.
use Rattle.std.specs.Prelude.{◌≡◌, ℕ, ◌+◌, ◌==◌, Bool, List, [], ◌++◌, length, take, Result, Ok, if◌then◌else◌}
use Rattle.grid_vertex.specs.declared.triangles.Triangle.{Triangle}
use Rattle.file_model.specs.declared.fields.PatchField.{PatchField}
use Rattle.file_model.specs.Lists.{BodyLists, IndexLists, FileLists, triangles_of}
use Rattle.mesh_model.specs.declared.refusals.DagFault.{DagFault}
use Rattle.mesh_model.specs.Frames.{triangles_where}
use Rattle.edge_chain.specs.Chains.{Chain, IsNetOf}

-- the triangles of those of the first n patches whose fields pass the test
abbrev pub first_triangles : ℕ → (PatchField → Bool) → List PatchField → List BodyLists → List Triangle
first_triangles n test fields bodies = triangles_where test (take n fields) bodies

-- the file with these bodies
abbrev pub file_with : IndexLists → List BodyLists → FileLists
file_with index bodies = record { index = index; bodies = bodies }

-- the triangles of a patch that passes the test, and none otherwise
abbrev pub only_if : Bool → BodyLists → List Triangle
only_if test body = if test then triangles_of body else []

-- a sum grows by a body's triangles
pub record Grows (body : BodyLists) (before after : Chain) : Type 0 where
  pub count : after.count ≡ before.count + length body.corners
  pub nets : (triangles : List Triangle) → IsNetOf triangles before → IsNetOf (triangles ++ triangles_of body) after

-- the base grows by a body whose patch leads from the root
abbrev pub AddsToBase : Result ℕ DagFault → ℕ → BodyLists → Chain → Chain → Type 0
AddsToBase verdict tail body before after = (root : ℕ) → verdict ≡ Ok root → (triangles : List Triangle) → IsNetOf triangles before → IsNetOf (triangles ++ only_if (tail == root) body) after

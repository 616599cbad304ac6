-- The graph of a patch file as a caller sees it.
use Rattle.std.specs.Prelude.{◌≡◌, ℕ, ◌<◌, List, length, slice_get, Option, Some, None, Result, Ok, Err}
use Rattle.file_model.specs.declared.fields.Node.{Node}
use Rattle.file_model.specs.declared.fields.PatchField.{PatchField}
use Rattle.file_model.specs.Lists.{IndexLists}
use Rattle.mesh_model.specs.declared.refusals.DagFault.{DagFault}
use Rattle.mesh_model.specs.Graph.{incoming, outgoing}
use Rattle.mesh_model.specs.Walks.{IsGrounded, IsLevel}
use Rattle.mesh_model.specs.Accepted.{IsNestedGraph, IsGraphFault}

-- what stands before the bodies of a file
abbrev pub index_of : ℕ → List Node → List PatchField → IndexLists
index_of version nodes fields = record { version = version; nodes = nodes; fields = fields }

-- each node's patches and level, and the root or the first fault of the graph
pub record GraphSeen : Type 0 where
  pub incoming : List (List ℕ)
  pub outgoing : List (List ℕ)
  pub levels : List (Option ℕ)
  pub verdict : Result ℕ DagFault

-- the verdict is the root of a graph that is nested and has levels, or its first fault
abbrev pub IsVerdict : IndexLists → Result ℕ DagFault → Type 0
IsVerdict index (Ok root) = IsNestedGraph index root
IsVerdict index (Err fault) = IsGraphFault index fault

-- the graph is that of the file
pub record IsGraphOf (index : IndexLists) (seen : GraphSeen) : Type 0 where
  pub incoming_count : length seen.incoming ≡ length index.nodes
  pub outgoing_count : length seen.outgoing ≡ length index.nodes
  pub level_count : length seen.levels ≡ length index.nodes
  pub incoming_is : (v : ℕ) → v < length index.nodes → slice_get seen.incoming v ≡ Some (incoming index.fields v)
  pub outgoing_is : (v : ℕ) → v < length index.nodes → slice_get seen.outgoing v ≡ Some (outgoing index.fields v)
  pub level_is : (v level : ℕ) → slice_get seen.levels v ≡ Some (Some level) → IsLevel index.fields v level
  pub no_level_is : (v : ℕ) → slice_get seen.levels v ≡ Some None → IsGrounded index.fields v → ⊥
  pub verdict_is : IsVerdict index seen.verdict

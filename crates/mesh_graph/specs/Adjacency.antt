-- The lists of the patches on one side of each node.
use Rattle.std.specs.Prelude.{◌≡◌, ℕ, ◌<◌, Bool, true, false, List, [], ◌∷◌, length, slice_get, Option, Some, None}
use Rattle.file_model.specs.declared.fields.PatchField.{PatchField}
use Rattle.mesh_model.specs.declared.sides.NodeSide.{NodeSide}
use Rattle.mesh_graph.specs.Sides.{patches_at}

-- each node's list has its patches, ascending
pub record IsAdjacency (side : NodeSide) (fields : List PatchField) (nodes : ℕ) (lists : List (List ℕ)) : Type 0 where
  pub as_many : length lists ≡ nodes
  pub each : (v : ℕ) → v < nodes → slice_get lists v ≡ Some (patches_at side fields v)

-- the list is there and has nothing
abbrev pub is_empty_list : Option (List ℕ) → Bool
is_empty_list None = false
is_empty_list (Some []) = true
is_empty_list (Some (p ∷ ps)) = false

-- the node has no patches
abbrev pub is_bare_at : List (List ℕ) → ℕ → Bool
is_bare_at lists v = is_empty_list (slice_get lists v)

-- The patches on one side of a node.
use Rattle.std.specs.Prelude.{ℕ, List, drop}
use Rattle.file_model.specs.declared.fields.PatchField.{PatchField}
use Rattle.mesh_model.specs.declared.sides.NodeSide.{NodeSide}
use Rattle.mesh_model.specs.Graph.{patches_from, patches_where}
use Rattle.mesh_model.specs.Sides.{is_on}

-- the patches on this side of a node, ascending
abbrev pub patches_at : NodeSide → List PatchField → ℕ → List ℕ
patches_at side fields v = patches_where (is_on side v) fields

-- those from a number on
abbrev pub patches_past : NodeSide → List PatchField → ℕ → ℕ → List ℕ
patches_past side fields v start = patches_from start (is_on side v) (drop start fields)

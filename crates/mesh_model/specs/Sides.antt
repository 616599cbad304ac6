-- The two sides of a node.
use Rattle.std.specs.Prelude.{ℕ, ◌==◌, Bool}
use Rattle.file_model.specs.declared.fields.PatchField.{PatchField}
use Rattle.mesh_model.specs.declared.sides.NodeSide.{NodeSide}
use Rattle.mesh_model.specs.declared.sides.NodeSide.TheVariants.{Incoming, Outgoing}

-- the node on whose side the patch is
abbrev pub node_on : NodeSide → PatchField → ℕ
node_on Incoming f = f.head
node_on Outgoing f = f.tail

-- the patch is on this side of the node
abbrev pub is_on : NodeSide → ℕ → PatchField → Bool
is_on side v f = node_on side f == v

-- Lists of patches as chains: where each begins, and what follows each patch.
use Rattle.std.specs.Prelude.{◌≡◌, ℕ, ◌+◌, ◌<◌, ◌≤◌, List, [], ◌∷◌, length, slice_get, Option, Some, None}
use Rattle.file_model.specs.declared.fields.PatchField.{PatchField}
use Rattle.mesh_model.specs.declared.sides.NodeSide.{NodeSide}
use Rattle.mesh_model.specs.Sides.{node_on}
use Rattle.mesh_graph.specs.Sides.{patches_past}

-- the first of the list
abbrev pub first_of : List ℕ → Option ℕ
first_of [] = None
first_of (p ∷ ps) = Some p

-- what follows a patch is a greater one
abbrev pub IsAfter : ℕ → Option ℕ → Type 0
IsAfter p None = Unit {0}
IsAfter p (Some q) = p < q

-- the chain that begins at a patch, or at none, has these patches
abbrev pub IsChain : List (Option ℕ) → Option ℕ → List ℕ → Type 0
IsChain next start [] = start ≡ None
IsChain next start (p ∷ ps) = (start ≡ Some p) × (following : Option ℕ) × (slice_get next p ≡ Some following) × IsAfter p following × IsChain next following ps

-- the patches from a number on are linked, on this side of each node
pub record AreLinked (side : NodeSide) (fields : List PatchField) (start : ℕ) (first next : List (Option ℕ)) : Type 0 where
  pub heads : (v : ℕ) → v < length first → slice_get first v ≡ Some (first_of (patches_past side fields v start))
  pub nexts : (p : ℕ) (f : PatchField) → start ≤ p → slice_get fields p ≡ Some f → slice_get next p ≡ Some (first_of (patches_past side fields (node_on side f) (p + 1)))

-- the node on whose side a patch is, is one of the nodes
abbrev pub HaveNodes : NodeSide → ℕ → List PatchField → Type 0
HaveNodes side nodes fields = (p : ℕ) (f : PatchField) → slice_get fields p ≡ Some f → node_on side f < nodes

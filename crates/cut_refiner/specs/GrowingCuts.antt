-- A set of nodes as it grows, and what leads to and from it.
use Rattle.std.specs.Prelude.{◌≡◌, ℕ, ◌<◌, Bool, true, false, not, ◌&&◌, List, length, slice_get, slice_index, Some, option_map, unwrap_or}
use Rattle.std.specs.List.{sum_by}
use Rattle.file_model.specs.declared.fields.PatchField.{PatchField}
use Rattle.mesh_model.specs.Graph.{leads_to, incoming}
use Rattle.mesh_model.specs.Nets.{one_if}
use Rattle.mesh_model.specs.Meshes.{MeshLists, IsMesh}
use Rattle.round_model.specs.Rounds.{has, has_parents, frame_size}

-- what the field of the patch of this number says
abbrev pub at_patch : (PatchField → ℕ) → List PatchField → ℕ → ℕ
at_patch part fields p = unwrap_or (option_map part (slice_get fields p)) 0

abbrev pub triangles_at : List PatchField → ℕ → ℕ
triangles_at = at_patch (λ (f : PatchField). f.triangles)

-- 1 where the patch leads to the node
abbrev pub heads_at : List PatchField → ℕ → ℕ → ℕ
heads_at fields v = at_patch (λ (f : PatchField). one_if (leads_to v f)) fields

-- how many patches lead to the node from outside the set
unfoldable pub missing_of : List PatchField → (ℕ → Bool) → ℕ → ℕ
missing_of fields in_set v = sum_by (λ (f : PatchField). one_if (leads_to v f && not (in_set f.tail))) fields

-- the numbers are those of the patches that lead to each node
pub record AreCounts (mesh : MeshLists) (counts : List ℕ) : Type 0 where
  pub as_many : length counts ≡ length mesh.index.nodes
  pub each : (v : ℕ) → v < length mesh.index.nodes → slice_index counts v ≡ length (incoming mesh.index.fields v)

-- a set that has each of its nodes' parents, how many patches lead to each node from outside of it, and
-- how many triangles lead out of it
pub record IsGrowingCut (mesh : MeshLists) (set : List Bool) (missing : List ℕ) (size : ℕ) : Type 0 where
  pub flags : length set ≡ length mesh.index.nodes
  pub counts : length missing ≡ length mesh.index.nodes
  pub closed : (p : ℕ) (f : PatchField) → slice_get mesh.index.fields p ≡ Some f → has set f.head ≡ true → has set f.tail ≡ true
  pub each : (v : ℕ) → v < length mesh.index.nodes → slice_index missing v ≡ missing_of mesh.index.fields (has set) v
  pub triangles : size ≡ frame_size (has set) mesh.index.fields

-- a node that isn't in the set while all its parents are
pub record IsGrowing (mesh : MeshLists) (set : List Bool) (missing : List ℕ) (size v : ℕ) : Type 0 where
  pub is_mesh : IsMesh mesh
  pub growing : IsGrowingCut mesh set missing size
  pub node : v < length mesh.index.nodes
  pub outside : has set v ≡ false
  pub parents : has_parents mesh.index.fields set v ≡ true

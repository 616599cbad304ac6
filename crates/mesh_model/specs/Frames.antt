-- Cuts of the graph, and their frames.
use Rattle.std.specs.Prelude.{◌≡◌, ℕ, ◌==◌, Bool, false, not, ◌&&◌, List, [], ◌∷◌, ◌++◌, IsTrue, slice_get, Some, if◌then◌else◌}
use Rattle.std.specs.List.{sum_by}
use Rattle.grid_vertex.specs.declared.triangles.Triangle.{Triangle}
use Rattle.file_model.specs.declared.fields.PatchField.{PatchField}
use Rattle.file_model.specs.Lists.{BodyLists, triangles_of}
use Rattle.mesh_model.specs.Graph.{patches_where, is_sink}

-- the triangles of the patches whose fields pass the test, in order
unfoldable pub triangles_where : (PatchField → Bool) → List PatchField → List BodyLists → List Triangle
triangles_where test [] bodies = []
triangles_where test (f ∷ fs) [] = []
triangles_where test (f ∷ fs) (b ∷ bs) = if test f then triangles_of b ++ triangles_where test fs bs else triangles_where test fs bs

-- how many triangles the patches have together
abbrev pub triangles_in_all : List PatchField → ℕ
triangles_in_all fields = sum_by (λ (f : PatchField). f.triangles) fields

-- the patch leads out of the set of nodes
abbrev pub leads_out : (ℕ → Bool) → PatchField → Bool
leads_out in_set f = in_set f.tail && not (in_set f.head)

-- the patches that lead out of the set, ascending
abbrev pub frame_patches : (ℕ → Bool) → List PatchField → List ℕ
frame_patches in_set fields = patches_where (leads_out in_set) fields

-- the triangles of these patches, in order
abbrev pub frame_triangles : (ℕ → Bool) → List PatchField → List BodyLists → List Triangle
frame_triangles in_set fields bodies = triangles_where (leads_out in_set) fields bodies

-- the root alone
abbrev pub root_alone : ℕ → ℕ → Bool
root_alone root v = v == root

-- the set has the root, no sink, and each node's parents
pub record IsCut (fields : List PatchField) (root : ℕ) (in_set : ℕ → Bool) : Type 0 where
  pub has_root : IsTrue (in_set root)
  pub no_sink : (v : ℕ) → IsTrue (in_set v) → is_sink fields v ≡ false
  pub has_parents : (p : ℕ) (f : PatchField) → slice_get fields p ≡ Some f → IsTrue (in_set f.head) → IsTrue (in_set f.tail)

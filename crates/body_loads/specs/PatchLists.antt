-- Lists of chosen patches: each is a patch, and they are no more than there are.
use Rattle.std.proofs.Common.{◌<◌, ◌≤◌, ℕ, zero, suc, ◌+◌, Bool, true, false, List, [], ◌∷◌, length, arith}
use Rattle.std.specs.Prelude.{slice_index_or, nat_le, IsTrue, if◌then◌else◌}
use Rattle.std.proofs.lemmas.Bool.{leb-true, and_parts}
use Rattle.file_model.specs.declared.fields.PatchField.{PatchField}
use Rattle.file_model.specs.Lists.{IndexLists}
use Rattle.file_model.specs.Rules.{IsIndex}
use Rattle.mesh_model.specs.Graph.{patches_from, patches_where}
use Rattle.mesh_model.specs.Chosen.{chosen_few}

-- each number of the list is below the end
abbrev AreBelow : ℕ → List ℕ → Type 0
AreBelow end patches = (k d : ℕ) → k < length patches → slice_index_or patches k d < end

below_by : (passes : Bool) (first end : ℕ) (patches : List ℕ) → first < end → AreBelow end patches → AreBelow end (if passes then first ∷ patches else patches)
below_by true first end patches here later zero d within = here
below_by true first end patches here later (suc k) d within = later k d (omega arith)
below_by false first end patches here later k d within = later k d within

below_from : (test : PatchField → Bool) (first end : ℕ) (fields : List PatchField) → first + length fields ≤ end → AreBelow end (patches_from first test fields)
unfolding patches_from
below_from test first end [] most k d within = absurd (omega arith)
below_from test first end (f ∷ fields) most k d within = below_by (test f) first end (patches_from (first + 1) test fields) (omega arith) (below_from test (first + 1) end fields (omega arith)) k d within

-- each chosen patch is one of the fields'
pub chosen_below : (test : PatchField → Bool) (fields : List PatchField) (k d : ℕ) → k < length (patches_where test fields) → slice_index_or (patches_where test fields) k d < length fields
chosen_below test fields = below_from test 0 (length fields) fields (omega arith)

-- an index has no more patches than a file may have
pub chosen_within : (test : PatchField → Bool) (index : IndexLists) → IsIndex index → length (patches_where test index.fields) ≤ 65536
chosen_within test index is =
    let count : IsTrue (nat_le (length index.fields) 65536) = (and_parts (nat_le 1 (length index.fields)) (nat_le (length index.fields) 65536) is.patch_count).1 in
    let few = leb-true (length index.fields) 65536 count in
    let chosen = chosen_few test index.fields in
    omega (arith, few, chosen)

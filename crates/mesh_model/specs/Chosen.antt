-- Patches that pass a test are no more than there are.
use Rattle.std.specs.Prelude.{ℕ, suc, ◌+◌, ◌≤◌, Bool, true, false, List, [], ◌∷◌, length, if◌then◌else◌}
use Rattle.std.proofs.Common.{arith}
use Rattle.file_model.specs.declared.fields.PatchField.{PatchField}
use Rattle.mesh_model.specs.Graph.{patches_from, patches_where}

few_by : (passes : Bool) (first most : ℕ) (patches : List ℕ) → length patches ≤ most → length (if passes then first ∷ patches else patches) ≤ suc most
few_by true first most patches few = omega arith
few_by false first most patches few = omega arith

few_from : (test : PatchField → Bool) (first : ℕ) (fields : List PatchField) → length (patches_from first test fields) ≤ length fields
unfolding patches_from
few_from test first [] = omega arith
few_from test first (f ∷ fields) = few_by (test f) first (length fields) (patches_from (first + 1) test fields) (few_from test (first + 1) fields)

pub chosen_few : (test : PatchField → Bool) (fields : List PatchField) → length (patches_where test fields) ≤ length fields
chosen_few test fields = few_from test 0 fields

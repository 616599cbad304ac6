-- How many bytes all bodies of a file have together.
use Rattle.std.proofs.Common.{◌≡◌, ◌∙◌, ℕ, suc, ◌+◌, List, [], ◌∷◌, length, Option, Some, refl, ap, arith}
use Rattle.std.specs.Prelude.{slice_get, option_map, unwrap_or}
use Rattle.std.specs.List.{sum_by, range_with_len}
use Rattle.std.proofs.lemmas.List.Sums.{sum_by-cons}
use Rattle.file_model.specs.declared.fields.PatchField.{PatchField}
use Rattle.file_model.specs.Lists.{IndexLists, body_size, bodies_size}
use Rattle.body_loads.specs.Loads.{size_at, sizes_sum}
use Rattle.file_convert.specs.Whole.{all_patches}

-- these are the fields from a patch on
abbrev AreFieldsFrom : IndexLists → ℕ → List PatchField → Type 0
AreFieldsFrom index first fields = (k : ℕ) → slice_get index.fields (first + k) ≡ slice_get fields k

sizes_from : (index : IndexLists) (first : ℕ) (fields : List PatchField) → AreFieldsFrom index first fields → sum_by (size_at index) (range_with_len first (length fields)) ≡ bodies_size index.version fields
unfolding bodies_size
sizes_from index first [] are = refl
sizes_from index first (f ∷ fs) are =
    let number : first ≡ first + 0 = omega arith in
    let here : slice_get index.fields first ≡ Some f = ap (λ (p : ℕ). slice_get index.fields p) number ∙ are 0 in
    let size : size_at index first ≡ body_size index.version f = ap (λ (o : Option PatchField). unwrap_or (option_map (body_size index.version) o) 0) here in
    let others : AreFieldsFrom index (first + 1) fs = λ k. let next : first + 1 + k ≡ first + suc k = omega arith in ap (λ (p : ℕ). slice_get index.fields p) next ∙ are (suc k) in
    sum_by-cons (size_at index) first (range_with_len (first + 1) (length fs)) ∙ omega (arith, size, sizes_from index (first + 1) fs others)

pub sizes_of_all : (index : IndexLists) → sizes_sum index (all_patches index) ≡ bodies_size index.version index.fields
sizes_of_all index = sizes_from index 0 index.fields (λ k. let number : 0 + k ≡ k = omega arith in ap (λ (p : ℕ). slice_get index.fields p) number)

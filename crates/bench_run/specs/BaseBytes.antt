-- The bodies of patches that were chosen have at most as many bytes as all bodies.
use Rattle.std.proofs.Common.{◌≡◌, ℕ, suc, ◌+◌, ◌≤◌, Bool, true, false, cond, List, [], ◌∷◌, Option, ap, ◌∙◌, sym, arith}
use Rattle.std.specs.Prelude.{slice_get, option_map}
use Rattle.std.specs.Option.{unwrap_or}
use Rattle.std.proofs.lemmas.List.Sums.{sum_by-cons}
use Rattle.file_model.specs.declared.fields.PatchField.{PatchField}
use Rattle.file_model.specs.Lists.{IndexLists, body_size, bodies_size}
use Rattle.mesh_model.specs.Graph.{patches_from, outgoing, leads_from}
use Rattle.body_loads.specs.Loads.{size_at, sizes_sum}

module _ (index : IndexLists) (test : PatchField → Bool) where
  one_more : (t : Bool) (k : ℕ) (ps : List ℕ) (n m : ℕ) → size_at index k ≡ n → sizes_sum index ps ≤ m → sizes_sum index (cond t (k ∷ ps) ps) ≤ n + m
  one_more true k ps n m here rest = let both = sum_by-cons (size_at index) k ps in omega (arith, both, here, rest)
  one_more false k ps n m here rest = omega arith

  some_within : (k : ℕ) (fs : List PatchField) → ((j : ℕ) → slice_get index.fields (k + j) ≡ slice_get fs j) → sizes_sum index (patches_from k test fs) ≤ bodies_size index.version fs
  unfolding patches_from bodies_size
  some_within k [] are = omega arith
  some_within k (f ∷ fs) are =
      let shift : (j : ℕ) → k + 1 + j ≡ k + suc j = λ j. omega arith in
      let first : k ≡ k + 0 = omega arith in
      let rest = some_within (k + 1) fs (λ j. ap (slice_get index.fields) (shift j) ∙ are (suc j)) in
      let here : size_at index k ≡ body_size index.version f =
      ap (size_at index) first ∙ ap (λ (field : Option PatchField). unwrap_or (option_map (body_size index.version) field) 0) (are 0) in
      one_more (test f) k (patches_from (k + 1) test fs) (body_size index.version f) (bodies_size index.version fs) here rest

pub outgoing_within : (index : IndexLists) (v : ℕ) → sizes_sum index (outgoing index.fields v) ≤ bodies_size index.version index.fields
outgoing_within index v = let none : (j : ℕ) → 0 + j ≡ j = λ j. omega arith in some_within index (leads_from v) 0 index.fields (λ j. ap (slice_get index.fields) (none j))

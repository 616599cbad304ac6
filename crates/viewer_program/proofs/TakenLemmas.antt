-- How much a store gave of an accepted file before it failed.
use Rattle.std.proofs.Common.{◌≡◌, ℕ, zero, suc, ◌+◌, ◌*◌, ◌≤◌, Bool, true, false, leb, not, List, [], ◌∷◌, length, take, drop, Option, Some, None, Result, Ok, refl, sym, ap, subst, ◌∙◌, arith}
use Rattle.std.specs.Prelude.{slice_get, option_map, unwrap_or, sum_by, ◌==◌, ◌||◌, IfSome, IsTrue, if◌then◌else◌}
use Rattle.std.specs.List.{list_all, list_any}
use Rattle.std.proofs.lemmas.Bool.{and_parts, leb-true, eq-eqb, not-false}
use Rattle.std.proofs.lemmas.List.Sums.{sum_by-cons}
use Rattle.file_model.specs.declared.faults.FileFault.{FileFault}
use Rattle.file_model.specs.declared.fields.PatchField.{PatchField}
use Rattle.file_model.specs.declared.limits.TheConstants.{MOST_IN_PATCH}
use Rattle.file_model.specs.Lists.{IndexLists, FileLists, body_size, bodies_size, bodies_offset}
use Rattle.file_model.specs.Reading.{◌>>=◌, Header, header_in, node_at, field_at, many_at, fields_size, fields_in, index_in, bodies_in, end_in, file_in, file_size}
use Rattle.file_model.specs.Rules.{IsPatchFile, is_between, has_ends, has_counts, is_field}
use Rattle.file_laws.specs.Steps.{step_ok, ok_is}
use Rattle.file_laws.specs.Files.{length-file_text, file_in-text, same_file}
use Rattle.mesh_model.specs.Graph.{leads_from, patches_from, outgoing}
use Rattle.mesh_model.specs.Accepted.{IsNestedGraph, IsAccepted}
use Rattle.accepted_mesh.specs.MeshView.{MeshSeen}
use Rattle.dag_check.specs.Checks.{Checks}
use Rattle.cache_chain.specs.Refusals.{base_size}
use Rattle.mesh_laws.specs.Bases.{base_is_cut}
use Rattle.view_outside.specs.Taken.{RisesBelow, RisesAtMost, taken_after, taken_after-zero, taken_after-taken_after}
use Rattle.body_loads.specs.Loads.{size_at, sizes_sum}
use Rattle.patch_file.specs.Taking.{announced_size, index_size}
use Rattle.viewer_program.specs.Loading.{TakesLess}

-- ---- the bodies of the base patches have bytes

size_by : (two : Bool) (points triangles : ℕ) → 1 ≤ points → 1 ≤ (if two then 12 + 6 * points + 6 * triangles else 12 * points + 6 * triangles)
size_by true points triangles some = omega arith
size_by false points triangles some = omega arith

some_bytes : (version : ℕ) (f : PatchField) → IsTrue (has_counts f) → 1 ≤ body_size version f
unfolding body_size
some_bytes version f counts =
    let parts = and_parts (is_between 1 MOST_IN_PATCH f.points) (is_between 1 MOST_IN_PATCH f.triangles) counts in
    let points = and_parts (leb 1 f.points) (leb f.points MOST_IN_PATCH) parts.0 in
    size_by (version == 2) f.points f.triangles (leb-true 1 f.points points.0)

-- the first patch whose field passes
record IsFirst (fields : List PatchField) (first : ℕ) (test : PatchField → Bool) : Type 0 where
  place : ℕ
  field : PatchField
  rest : List ℕ
  at : slice_get fields place ≡ Some field
  counts : IsTrue (has_counts field)
  are : patches_from first test fields ≡ (first + place) ∷ rest

some_first : (nodes : ℕ) (test : PatchField → Bool) (first : ℕ) (fields : List PatchField) → IsTrue (list_all (is_field nodes) fields) → list_any test fields ≡ true → IsFirst fields first test
unfolding patches_from
some_first nodes test first [] rules some = absurd cc
some_first nodes test first (f ∷ fields) rules some =
    by_test (test f) refl (some_first nodes test (first + 1) fields (and_parts (is_field nodes f) (list_all (is_field nodes) fields) rules).1)
  where
    by_test : (b : Bool) → test f ≡ b → (list_any test fields ≡ true → IsFirst fields (first + 1) test) → IsFirst (f ∷ fields) first test
    by_test true passes others = record {
      place = 0;
      field = f;
      rest = patches_from (first + 1) test fields;
      at = refl;
      counts = (and_parts (has_ends nodes f) (has_counts f) (and_parts (is_field nodes f) (list_all (is_field nodes) fields) rules).0).1;
      are = ap (λ (b : Bool). if b then first ∷ patches_from (first + 1) test fields else patches_from (first + 1) test fields) passes ∙ ap (λ (p : ℕ). p ∷ patches_from (first + 1) test fields) (omega arith);
    }
    by_test false fails others =
        let later = others (sym (ap (λ (b : Bool). b || list_any test fields) fails) ∙ some) in
        record {
          place = suc later.place;
          field = later.field;
          rest = later.rest;
          at = later.at;
          counts = later.counts;
          are = ap (λ (b : Bool). if b then first ∷ patches_from (first + 1) test fields else patches_from (first + 1) test fields) fails ∙ later.are ∙ ap (λ (p : ℕ). p ∷ later.rest) (omega arith);
        }

-- ---- what is read before the bodies

many_count : {A : Type 0} (unit : ℕ → List ℕ → Result (A × List ℕ) FileFault) (n k : ℕ) (bytes : List ℕ) (x : List A × List ℕ) → many_at unit n k bytes ≡ Ok x → length x.0 ≡ n
unfolding many_at
many_count {A} unit zero k bytes x is =
    let made : List A × List ℕ = ([], bytes) in
    ap (λ (y : List A × List ℕ). length y.0) (sym (ok_is made x is))
many_count {A} unit (suc n) k bytes x is =
    let a = step_ok (unit k bytes) (λ first. many_at unit n (k + 1) first.1 >>= λ others. Ok (first.0 ∷ others.0, others.1)) x is in
    let b = step_ok (many_at unit n (k + 1) a.0.1) (λ others. Ok (a.0.0 ∷ others.0, others.1)) x a.2 in
    let made : List A × List ℕ = (a.0.0 ∷ b.0.0, b.0.1) in
    ap (λ (y : List A × List ℕ). length y.0) (sym (ok_is made x b.2)) ∙ ap suc (many_count unit n (k + 1) a.0.1 b.0 b.1)

index_size_is : (bytes : List ℕ) (index : IndexLists) → index_in bytes ≡ Ok index → index_size (Some bytes) ≡ bodies_offset index
unfolding index_in fields_in
index_size_is bytes index is =
    let a = step_ok (header_in (take 16 bytes)) (λ h. fields_in h (take (fields_size h) (drop 16 bytes))) index is in
    let header = a.0 in
    let bs = take (fields_size header) (drop 16 bytes) in
    let b = step_ok (many_at (node_at (16 + length bs)) header.nodes 0 bs) (λ nodes. many_at (field_at header.nodes (16 + length bs)) header.patches 0 nodes.1 >>= λ fields. Ok (record { version = header.version; nodes = nodes.0; fields = fields.0 })) index a.2 in
    let c = step_ok (many_at (field_at header.nodes (16 + length bs)) header.patches 0 b.0.1) (λ fields. Ok (record { version = header.version; nodes = b.0.0; fields = fields.0 })) index b.2 in
    let made : IndexLists = record { version = header.version; nodes = b.0.0; fields = c.0.0 } in
    let nodes = many_count (node_at (16 + length bs)) header.nodes 0 bs b.0 b.1 in
    let fields = many_count (field_at header.nodes (16 + length bs)) header.patches 0 b.0.1 c.0 c.1 in
    ap (λ (r : Result Header FileFault). 16 + announced_size r) a.1 ∙ omega (arith, nodes, fields) ∙ ap bodies_offset (ok_is made index c.2)

-- the index of a file that can be read
pub index_of_file : (bytes : List ℕ) (file : FileLists) → file_in bytes ≡ Ok file → index_in bytes ≡ Ok file.index
unfolding file_in
index_of_file bytes file is =
    let a = step_ok (index_in bytes) (λ index. bodies_in index.version 0 (bodies_offset index) index.fields bytes >>= λ bodies. end_in index bytes >>= λ _. Ok (record { index = index; bodies = bodies })) file is in
    let b = step_ok (bodies_in a.0.version 0 (bodies_offset a.0) a.0.fields bytes) (λ bodies. end_in a.0 bytes >>= λ _. Ok (record { index = a.0; bodies = bodies })) file a.2 in
    let c = step_ok (end_in a.0 bytes) (λ _. Ok (record { index = a.0; bodies = b.0 })) file b.2 in
    let made : FileLists = record { index = a.0; bodies = b.0 } in
    a.1 ∙ ap (λ (f : FileLists). Ok f.index) (ok_is made file c.2)

-- ---- less than the file and the bodies of its base patches

module _ (bytes : List ℕ) (file : FileLists) (root : ℕ) (spelled : IsPatchFile file bytes) (accepted : IsAccepted file root) where
  abbrev limit : ℕ
  limit = length bytes + sizes_sum file.index (outgoing file.index.fields root)

  file_length : length bytes ≡ file_size file.index
  file_length = ap length spelled.text ∙ length-file_text file spelled.bodies

  some_base : 1 ≤ sizes_sum file.index (outgoing file.index.fields root)
  some_base =
      let index = file.index in
      let sink : not (list_any (leads_from root) index.fields) ≡ false = (base_is_cut index root spelled.index accepted.graph).no_sink root (eq-eqb root root refl) in
      let some = not-false (list_any (leads_from root) index.fields) sink in
      let first = some_first (length index.nodes) (leads_from root) 0 index.fields spelled.index.fields some in
      let here : 0 + first.place ≡ first.place = omega arith in
      let is : size_at index (0 + first.place) ≡ body_size index.version first.field =
      ap (size_at index) here ∙ ap (λ (f : Option PatchField). unwrap_or (option_map (body_size index.version) f) 0) first.at in
      let sum : sizes_sum index (outgoing index.fields root) ≡ size_at index (0 + first.place) + sum_by (size_at index) first.rest =
      ap (sum_by (size_at index)) first.are ∙ sum_by-cons (size_at index) (0 + first.place) first.rest in
      omega (arith, some_bytes index.version first.field first.counts)

  -- nothing was taken
  none_below : (taken now : ℕ) → now ≡ taken → RisesBelow taken now limit
  none_below taken now same = record { bytes = 0; below = omega (arith, some_base); sum = same ∙ sym (taken_after-zero taken) }

  -- less than the index
  index_below : (taken now : ℕ) → RisesBelow taken now (index_size (Some bytes)) → RisesBelow taken now limit
  index_below taken now rises =
      let size = index_size_is bytes file.index (index_of_file bytes file (file_in-text file bytes spelled)) in
      let below = rises.below in
      record { bytes = rises.bytes; below = omega (arith, file_length, size); sum = rises.sum }

  -- no more than the bodies behind the index
  bodies_below : (taken between now : ℕ) → between ≡ taken_after taken (bodies_offset file.index) → RisesAtMost between now (bodies_size file.index.version file.index.fields) → RisesBelow taken now limit
  bodies_below taken between now is rises =
      let below = rises.below in
      record {
        bytes = bodies_offset file.index + rises.bytes;
        below = omega (arith, file_length, some_base);
        sum = rises.sum ∙ ap (λ (t : ℕ). taken_after t rises.bytes) is ∙ taken_after-taken_after taken (bodies_offset file.index) rises.bytes;
      }

  -- less than the bodies of the base patches behind the file
  base_below : (taken between now : ℕ) → between ≡ taken_after taken (file_size file.index) → RisesBelow between now (sizes_sum file.index (outgoing file.index.fields root)) → RisesBelow taken now limit
  base_below taken between now is rises =
      let below = rises.below in
      record {
        bytes = file_size file.index + rises.bytes;
        below = omega (arith, file_length);
        sum = rises.sum ∙ ap (λ (t : ℕ). taken_after t rises.bytes) is ∙ taken_after-taken_after taken (file_size file.index) rises.bytes;
      }

-- ---- where the file may be told

pub takes_none : (told : Option (List ℕ)) (taken now : ℕ) → now ≡ taken → TakesLess told taken now
takes_none None taken now same = tt
takes_none (Some bytes) taken now same = λ file root spelled accepted. none_below bytes file root spelled accepted taken now same

pub takes_index : (told : Option (List ℕ)) (taken now : ℕ) → RisesBelow taken now (index_size told) → TakesLess told taken now
takes_index None taken now rises = tt
takes_index (Some bytes) taken now rises = λ file root spelled accepted. index_below bytes file root spelled accepted taken now rises

pub takes_bodies : (told : Option (List ℕ)) (index : IndexLists) (taken between now : ℕ) → IfSome told (λ (bytes : List ℕ). index_in bytes ≡ Ok index) → between ≡ taken_after taken (bodies_offset index) → RisesAtMost between now (bodies_size index.version index.fields) → TakesLess told taken now
takes_bodies None index taken between now is took rises = tt
takes_bodies (Some bytes) index taken between now is took rises = λ file root spelled accepted.
    let e : Ok index ≡ Ok file.index = sym is ∙ index_of_file bytes file (file_in-text file bytes spelled) in
    let same : index ≡ file.index = ok_is index file.index e in
    bodies_below bytes file root spelled accepted taken between now (took ∙ ap (λ (i : IndexLists). taken_after taken (bodies_offset i)) same)
    (subst (λ (i : IndexLists). RisesAtMost between now (bodies_size i.version i.fields)) same rises)

one_root : (index : IndexLists) (a b : ℕ) → IsNestedGraph index a → IsNestedGraph index b → a ≡ b
one_root index a b first second = let e : a ∷ [] ≡ b ∷ [] = sym first.one_root ∙ second.one_root in cc

pub takes_base : (told : Option (List ℕ)) (mesh : MeshSeen) (taken between now : ℕ) → IfSome told (λ (bytes : List ℕ). Checks bytes (Ok mesh)) → between ≡ taken_after taken (file_size mesh.lists.index) → RisesBelow between now (base_size mesh.lists) → TakesLess told taken now
takes_base None mesh taken between now checked took rises = tt
takes_base (Some bytes) mesh taken between now (checked_file, is, of, checked_text) took rises = λ file root spelled accepted.
    let same_lists : checked_file ≡ file = same_file checked_file file bytes checked_text spelled in
    let same : mesh.lists.index ≡ file.index = sym of.index ∙ ap (λ (f : FileLists). f.index) same_lists in
    let checked_graph : IsNestedGraph file.index mesh.lists.root = subst (λ (f : FileLists). IsNestedGraph f.index mesh.lists.root) same_lists of.accepted.graph in
    let roots : mesh.lists.root ≡ root = one_root file.index mesh.lists.root root checked_graph accepted.graph in
    let size : base_size mesh.lists ≡ sizes_sum file.index (outgoing file.index.fields root) =
    ap (λ (i : IndexLists). sizes_sum i (outgoing i.fields mesh.lists.root)) same ∙ ap (λ (r : ℕ). sizes_sum file.index (outgoing file.index.fields r)) roots in
    base_below bytes file root spelled accepted taken between now (took ∙ ap (λ (i : IndexLists). taken_after taken (file_size i)) same)
    (subst (λ (n : ℕ). RisesBelow between now n) size rises)

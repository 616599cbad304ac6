-- How many triangles the base has, by the fields of its patches.
use Rattle.std.proofs.Common.{◌≡◌, ℕ, ◌+◌, ◌==◌, Bool, true, false, cond, Some, get_or, take, List, [], ◌∷◌, ◌++◌, length, refl, sym, ap, ◌∙◌, arith, length-append}
use Rattle.std.specs.Prelude.{IsTrue, slice_get, if◌then◌else◌}
use Rattle.std.specs.List.{sum_by}
use Rattle.std.proofs.lemmas.Bool.{and_parts, eqb-true}
use Rattle.std.proofs.lemmas.List.Sums.{sum_by-cons, sum_by_more}
use Rattle.std.proofs.lemmas.Option.{same_Some, slice_get-get_or, slice_get_within}
use Rattle.grid_vertex.specs.declared.triangles.Triangle.{Triangle}
use Rattle.file_model.specs.declared.fields.PatchField.{PatchField}
use Rattle.file_model.specs.Lists.{BodyLists, triangles_of}
use Rattle.file_model.specs.Rules.{are_bodies}
use Rattle.file_laws.specs.Files.{are_bodies-parts}
use Rattle.mesh_model.specs.Graph.{leads_from}
use Rattle.mesh_model.specs.Frames.{triangles_where}
use Rattle.body_edges.specs.TriangleCounts.{length-triangles_from}

-- how many triangles the patch adds to those that lead from the node
abbrev pub base_part : ℕ → PatchField → ℕ
base_part root f = if f.tail == root then f.triangles else 0

-- how many triangles the patches have together that lead from the node
abbrev pub base_sum : ℕ → List PatchField → ℕ
base_sum root fields = sum_by (base_part root) fields

joined : (test : Bool) (ts more : List Triangle) (n m : ℕ) → length ts ≡ n → length more ≡ m → length (cond test (ts ++ more) more) ≡ cond test n 0 + m
joined true ts more n m first rest = length-append ts more ∙ omega arith
joined false ts more n m first rest = omega arith

-- they are as many as stand in the bodies
pub base_counted : (root version : ℕ) (fields : List PatchField) (bodies : List BodyLists) → IsTrue (are_bodies version fields bodies) → length (triangles_where (leads_from root) fields bodies) ≡ base_sum root fields
unfolding triangles_where are_bodies
base_counted root version [] bodies are = refl
base_counted root version (f ∷ fs) [] are = absurd (cc)
base_counted root version (f ∷ fs) (b ∷ bs) are =
    let parts = are_bodies-parts version f fs b bs are in
    let own : length (triangles_of b) ≡ f.triangles =
    length-triangles_from b.points b.corners ∙ eqb-true (length b.corners) f.triangles (and_parts (length b.points == f.points) (length b.corners == f.triangles) parts.fits).1 in
    joined (f.tail == root) (triangles_of b) (triangles_where (leads_from root) fs bs) f.triangles (base_sum root fs) own (base_counted root version fs bs parts.others)
    ∙ sym (sum_by-cons (base_part root) f fs)

-- one patch more
pub base_more : (root p : ℕ) (fields : List PatchField) (f : PatchField) → slice_get fields p ≡ Some f → base_sum root (take (p + 1) fields) ≡ base_sum root (take p fields) + base_part root f
base_more root p fields f at =
    let within = slice_get_within fields p f at in
    sum_by_more (base_part root) fields p f within
    ∙ ap (λ (g : PatchField). base_sum root (take p fields) + base_part root g) (same_Some (get_or fields p f) f (sym (slice_get-get_or fields p f within) ∙ at))

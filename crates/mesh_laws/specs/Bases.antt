-- The base: the root alone is a cut, and its frame is what leads from the root.
use Rattle.std.proofs.Common.{◌≡◌, ℕ, zero, suc, ◌<◌, ◌≤◌, Bool, true, false, not, ◌&&◌, leb, List, [], ◌∷◌, length, Some, refl, sym, ap, subst, arith, inl, inr}
use Rattle.std.specs.Prelude.{slice_get}
use Rattle.std.specs.List.{AllByRecursion, list_any}
use Rattle.std.proofs.lemmas.Bool.{or_cases, and_parts, not-false, not-true, eqb-true, eqb-false, eq-eqb, leb-true, false_from_ne_true}
use Rattle.file_model.specs.declared.fields.PatchField.{PatchField}
use Rattle.file_model.specs.Lists.{IndexLists, FileLists}
use Rattle.file_model.specs.Rules.{IsIndex}
use Rattle.mesh_model.specs.Graph.{leads_to, leads_from, is_sink, roots, outgoing}
use Rattle.mesh_model.specs.Walks.{EndsAt}
use Rattle.mesh_model.specs.Frames.{leads_out, frame_patches, frame_triangles, root_alone, IsCut}
use Rattle.mesh_model.specs.Accepted.{triangles_out_of, IsNestedGraph}
use Rattle.mesh_laws.specs.Each.{each_fails, each_then, each_both, each_at}
use Rattle.mesh_laws.specs.Ends.{HasEnds, each_has_ends}
use Rattle.mesh_laws.specs.Patches.{triangles_same, patches_same}
use Rattle.mesh_laws.specs.Roots.{IsOnlyRoot, only_root_from_roots}

kept_out : (t h : Bool) → h ≡ false → (t && not h) ≡ t
kept_out true true e = absurd cc
kept_out true false e = refl
kept_out false h e = refl

-- what leads from the root leads out of the root alone
tests_agree : (nodes : ℕ) (fields : List PatchField) (root : ℕ) → roots nodes fields ≡ root ∷ [] → AllByRecursion (λ f. leads_out (root_alone root) f ≡ leads_from root f) fields
tests_agree nodes fields root e =
    each_then (λ f. leads_to root f ≡ false) (λ f. leads_out (root_alone root) f ≡ leads_from root f) fields (λ f h. kept_out (leads_from root f) (leads_to root f) h) (only_root_from_roots nodes fields root e).no_patch

pub base_patches : (nodes : ℕ) (fields : List PatchField) (root : ℕ) → roots nodes fields ≡ root ∷ [] → frame_patches (root_alone root) fields ≡ outgoing fields root
base_patches nodes fields root e = patches_same (leads_out (root_alone root)) (leads_from root) 0 fields (tests_agree nodes fields root e)

pub base_triangles : (nodes : ℕ) (file : FileLists) (root : ℕ) → roots nodes file.index.fields ≡ root ∷ [] → frame_triangles (root_alone root) file.index.fields file.bodies ≡ triangles_out_of file root
base_triangles nodes file root e = triangles_same (leads_out (root_alone root)) (leads_from root) file.index.fields file.bodies (tests_agree nodes file.index.fields root e)

-- ---- the root alone is a cut

-- a patch that passes the test
found : (test : PatchField → Bool) (fields : List PatchField) → list_any test fields ≡ true → (p : ℕ) × (f : PatchField) × (slice_get fields p ≡ Some f) × (test f ≡ true)
found test [] h = absurd cc
found test (f ∷ fs) h =
    elim (or_cases (test f) (list_any test fs) h) [
      | inl first ↦ (0, f, refl, first)
      | inr later ↦ let rest = found test fs later in (suc rest.0, rest.1, rest.2, rest.3)
    ]

-- the node isn't the root
record IsApart (nodes root v : ℕ) : Type 0 where
  node : v < nodes
  other : root ≡ v → ⊥

-- where nothing leads from the root, each other node has walks of every length
long_walk : (nodes : ℕ) (fields : List PatchField) (root : ℕ) → IsOnlyRoot nodes fields root → AllByRecursion (λ f. IsApart nodes root f.tail) fields → (n v : ℕ) → IsApart nodes root v → (ps : List ℕ) × EndsAt fields ps v × (length ps ≡ n)
long_walk nodes fields root only tails zero v apart = ([], tt, refl)
long_walk nodes fields root only tails (suc n) v apart =
    let into = found (leads_to v) fields (not-false (list_any (leads_to v) fields) (only.others v apart.node apart.other)) in
    let rest = long_walk nodes fields root only tails n into.1.tail (each_at (λ f. IsApart nodes root f.tail) fields into.0 into.1 into.2 tails) in
    (into.0 ∷ rest.0, (into.1, into.2, eqb-true into.1.head v into.3, rest.1), ap suc rest.2)

-- a list that has an item has a first one
first_of_list : (fields : List PatchField) → 1 ≤ length fields → (f : PatchField) × (slice_get fields 0 ≡ Some f)
first_of_list [] h = absurd (omega arith)
first_of_list (f ∷ fs) h = (f, refl)

-- what can't be: nothing leads from the root
never_sink : (index : IndexLists) (root : ℕ) → IsIndex index → IsNestedGraph index root → is_sink index.fields root ≡ true → ⊥
never_sink index root rules graph sink =
    let nodes = length index.nodes in
    let only = only_root_from_roots nodes index.fields root graph.one_root in
    let ends = each_has_ends index rules in
    let apart : AllByRecursion (λ f. IsApart nodes root f.tail) index.fields =
    each_both (HasEnds nodes) (λ f. leads_from root f ≡ false) (λ f. IsApart nodes root f.tail) index.fields
    (λ f has fails. record { node = has.tail; other = λ same. eqb-false f.tail root fails (sym same) }) ends (each_fails (leads_from root) index.fields (not-true (list_any (leads_from root) index.fields) sink)) in
    let some_patch = leb-true 1 (length index.fields) (and_parts (leb 1 (length index.fields)) (leb (length index.fields) 65536) rules.patch_count).0 in
    let first = first_of_list index.fields some_patch in
    let start = each_at (λ f. IsApart nodes root f.tail) index.fields 0 first.0 first.1 apart in
    let bound = graph.grounded first.0.tail start.node in
    let walk = long_walk nodes index.fields root only apart (suc bound.0) first.0.tail start in
    omega (arith, bound.1 walk.0 walk.1, walk.2)

pub base_is_cut : (index : IndexLists) (root : ℕ) → IsIndex index → IsNestedGraph index root → IsCut index.fields root (root_alone root)
base_is_cut index root rules graph =
    let only = only_root_from_roots (length index.nodes) index.fields root graph.one_root in
    record {
      has_root = eq-eqb root root refl;
      no_sink = λ v at. subst (λ (u : ℕ). is_sink index.fields u ≡ false) (sym (eqb-true v root at)) (false_from_ne_true (is_sink index.fields root) (never_sink index root rules graph));
      has_parents = λ p f here leads. absurd (let never = each_at (λ f. leads_to root f ≡ false) index.fields p f here only.no_patch in cc);
    }

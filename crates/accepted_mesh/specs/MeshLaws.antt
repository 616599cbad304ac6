-- What is kept of an accepted mesh makes it a mesh.
use Rattle.std.specs.Prelude.{zero, suc, ◌+◌, ◌≤◌, Bool, true, false, if◌then◌else◌, ◌≡◌, ℕ, ◌<◌, List, [], ◌∷◌, length, slice_get, Option, Some, None, option_map, unwrap_or, refl}
use Rattle.std.proofs.Common.{sym, ap, ◌∙◌, subst, arith}
use Rattle.std.proofs.lemmas.List.{length-map}
use Rattle.std.proofs.lemmas.Option.{slice_get-map, slice_get_within}
use Rattle.file_model.specs.Lists.{IndexLists}
use Rattle.mesh_model.specs.Walks.{IsLevel}
use Rattle.mesh_model.specs.Graph.{numbers_from, is_root}
use Rattle.mesh_model.specs.Accepted.{IsNestedGraph}
use Rattle.mesh_model.specs.Meshes.{IsMesh}
use Rattle.mesh_graph.specs.Graphs.{GraphSeen}
use Rattle.accepted_mesh.specs.MeshView.{levels_of, mesh_lists, IsMeshState}

length-levels : (levels : List (Option ℕ)) → length (levels_of levels) ≡ length levels
length-levels levels = length-map levels (λ level. unwrap_or level 0)

level_known : (index : IndexLists) (graph : GraphSeen) (root v level : ℕ) (found : Option (Option ℕ)) → IsMeshState index graph root → slice_get graph.levels v ≡ found → option_map (λ l. unwrap_or l 0) found ≡ Some level → IsLevel index.fields v level
level_known index graph root v level None h at e = absurd cc
level_known index graph root v level (Some None) h at e =
    let within : v < length graph.levels = slice_get_within graph.levels v None at in
    absurd (h.graph.no_level_is v at (h.nested.grounded v (omega (arith, within, h.graph.level_count))))
level_known index graph root v level (Some (Some l)) h at e =
    let same : l ≡ level = cc in
    subst (λ (n : ℕ). IsLevel index.fields v n) same (h.graph.level_is v l at)

pub mesh_is : (index : IndexLists) (graph : GraphSeen) (root : ℕ) → IsMeshState index graph root → IsMesh (mesh_lists index graph root)
mesh_is index graph root h = record {
  rules = h.rules;
  graph = h.nested;
  as_many = length-levels graph.levels ∙ h.graph.level_count;
  are_levels = λ v level e. level_known index graph root v level (slice_get graph.levels v) h refl (sym (slice_get-map (λ l. unwrap_or l 0) graph.levels v) ∙ e);
}

-- a number that stands first among those that pass a test
pub record IsPassing (test : ℕ → Bool) (first n v : ℕ) : Type 0 where
  pub low : first ≤ v
  pub high : v < first + n
  pub passes : test v ≡ true

first_passes : (test : ℕ → Bool) (n first v : ℕ) (vs : List ℕ) → numbers_from first n test ≡ v ∷ vs → IsPassing test first n v
unfolding numbers_from
first_passes test zero first v vs e = absurd cc
first_passes test (suc n) first v vs e =
    let by : (t : Bool) → test first ≡ t → (if t then first ∷ numbers_from (first + 1) n test else numbers_from (first + 1) n test) ≡ v ∷ vs → IsPassing test first (suc n) v =
    λ t. elim t as (λ u. test first ≡ u → (if u then first ∷ numbers_from (first + 1) n test else numbers_from (first + 1) n test) ≡ v ∷ vs → IsPassing test first (suc n) v) [
      | true ↦ λ passes same. (let here : first ≡ v = cc in record { low = omega arith; high = omega arith; passes = ap test (sym here) ∙ passes })
      | false ↦ λ fails same. (let later = first_passes test n (first + 1) v vs same in record { low = omega (arith, later.low); high = omega (arith, later.high); passes = later.passes })
    ] in
    by (test first) refl e

-- the root is a node, and no patch leads to it
pub root_is : (index : IndexLists) (root : ℕ) → IsNestedGraph index root → IsPassing (is_root index.fields) 0 (length index.nodes) root
root_is index root h = first_passes (is_root index.fields) (length index.nodes) 0 root [] h.one_root

pub root_below : (index : IndexLists) (root : ℕ) → IsNestedGraph index root → root < length index.nodes
root_below index root h = omega (arith, (root_is index root h).high)

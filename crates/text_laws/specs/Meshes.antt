-- An accepted mesh has its levels from its nodes and patches.
use Rattle.std.proofs.Common.{◌≡◌, ℕ, suc, List, [], ◌∷◌, length, Some, refl, sym, ap, subst, ◌∙◌, arith}
use Rattle.std.specs.Prelude.{slice_get}
use Rattle.file_model.specs.Lists.{IndexLists}
use Rattle.mesh_model.specs.Walks.{IsLevel}
use Rattle.mesh_model.specs.Meshes.{MeshLists, IsMesh}
use Rattle.mesh_graph.specs.Levels.{level_is_one}

-- at each place at which both lists have a number, the numbers are equal
abbrev AgreeAtPlaces : List ℕ → List ℕ → Type 0
AgreeAtPlaces xs ys = (k x y : ℕ) → slice_get xs k ≡ Some x → slice_get ys k ≡ Some y → x ≡ y

agreeing_are_one : (xs ys : List ℕ) → length xs ≡ length ys → AgreeAtPlaces xs ys → xs ≡ ys
agreeing_are_one [] [] as_many agree = refl
agreeing_are_one [] (y ∷ ys) as_many agree = absurd (omega (arith, as_many))
agreeing_are_one (x ∷ xs) [] as_many agree = absurd (omega (arith, as_many))
agreeing_are_one (x ∷ xs) (y ∷ ys) as_many agree =
    let first = agree 0 x y refl refl in
    let rest = agreeing_are_one xs ys (omega (arith, as_many)) (λ k. agree (suc k)) in
    λ i. first i ∷ rest i

levels_are_one : (mesh other : MeshLists) → IsMesh mesh → IsMesh other → mesh.index ≡ other.index → mesh.levels ≡ other.levels
levels_are_one mesh other h k same =
    agreeing_are_one mesh.levels other.levels (h.as_many ∙ ap (λ (index : IndexLists). length index.nodes) same ∙ sym k.as_many)
    (λ v a b here there. level_is_one other.index.fields v a b (subst (λ (index : IndexLists). IsLevel index.fields v a) same (h.are_levels v a here)) (k.are_levels v b there))

pub mesh_is_one : (mesh other : MeshLists) → IsMesh mesh → IsMesh other → mesh.index ≡ other.index → mesh.root ≡ other.root → mesh ≡ other
mesh_is_one mesh other h k same_index same_root =
    let same_levels = levels_are_one mesh other h k same_index in
    λ i. record { index = same_index i; root = same_root i; levels = same_levels i }

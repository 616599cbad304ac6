-- A node's parents are tried before it, where scores don't rise along arcs.
use Rattle.std.proofs.Common.{◌≡◌, ℕ, zero, suc, ◌<◌, ◌≤◌, Bool, true, false, List, [], ◌∷◌, length, map, Option, Some, refl, ap, subst, ◌∙◌, arith, inl, inr}
use Rattle.std.specs.Prelude.{slice_get, slice_index}
use Rattle.std.proofs.lemmas.Bool.{cases_lt, cases_order, or_cases}
use Rattle.std.proofs.lemmas.Option.{slice_get-get_or}
use Rattle.grid_vertex.specs.declared.points.Point.{Point}
use Rattle.file_model.specs.declared.fields.Node.{Node}
use Rattle.file_model.specs.declared.fields.PatchField.{PatchField}
use Rattle.file_model.specs.Lists.{IndexLists}
use Rattle.file_model.specs.Rules.{IsIndex}
use Rattle.mesh_model.specs.Graph.{is_sink}
use Rattle.mesh_model.specs.Walks.{IsLevel}
use Rattle.mesh_model.specs.Accepted.{is_inner, nested_by, has_no_more_error, has_ball_within}
use Rattle.mesh_model.specs.Meshes.{MeshLists, IsMesh}
use Rattle.round_model.specs.Scores.{score_of}
use Rattle.round_model.specs.Order.{Rules, score, comes_before, node_order}
use Rattle.mesh_laws.specs.Each.{each_at}
use Rattle.mesh_laws.specs.Ends.{HasEnds, each_has_ends}
use Rattle.round_laws.specs.Before.{decides_before, before_never_itself, before_one_way}
use Rattle.round_laws.specs.Ascending.{IsInnerNode, order_is_inner, order_ascends, ascends_at, order_has, first_is}
use Rattle.round_laws.specs.Falls.{score_falls}
use Rattle.round_laws.specs.Cuts.{inner_no_sink}

-- ---- levels rise along arcs

ends_of_patch : (index : IndexLists) → IsIndex index → (p : ℕ) (f : PatchField) → slice_get index.fields p ≡ Some f → HasEnds (length index.nodes) f
ends_of_patch index rules p f here = each_at (HasEnds (length index.nodes)) index.fields p f here (each_has_ends index rules)

level_at : (mesh : MeshLists) → IsMesh mesh → (v : ℕ) → v < length mesh.index.nodes → IsLevel mesh.index.fields v (slice_index mesh.levels v)
level_at mesh is v node = is.are_levels v (slice_index mesh.levels v) (slice_get-get_or mesh.levels v 0 (let many = is.as_many in omega arith))

longer_walk : (fields : List PatchField) (p low high : ℕ) (f : PatchField) → slice_get fields p ≡ Some f → IsLevel fields f.tail low → IsLevel fields f.head high → low < high
longer_walk fields p low high f here tail head =
    let walk = tail.reached in
    let bound = head.bound (p ∷ walk.0) (f, here, refl, walk.1) in
    omega (arith, bound, walk.2)

pub levels_rise : (mesh : MeshLists) → IsMesh mesh → (p : ℕ) (f : PatchField) → slice_get mesh.index.fields p ≡ Some f → slice_index mesh.levels f.tail < slice_index mesh.levels f.head
levels_rise mesh is p f here =
    let ends = ends_of_patch mesh.index is.rules p f here in
    longer_walk mesh.index.fields p (slice_index mesh.levels f.tail) (slice_index mesh.levels f.head) f here (level_at mesh is f.tail ends.tail) (level_at mesh is f.head ends.head)

-- ---- parents come first

-- the score of a patch's head isn't above its tail's, but for a sink
abbrev pub FallsAlong : Rules → Type 0
FallsAlong rules = (p : ℕ) (f : PatchField) → slice_get rules.mesh.index.fields p ≡ Some f → is_sink rules.mesh.index.fields f.head ≡ false → score rules f.head ≤ score rules f.tail

pub parent_before : (rules : Rules) → IsMesh rules.mesh → FallsAlong rules → (p : ℕ) (f : PatchField) → slice_get rules.mesh.index.fields p ≡ Some f → is_sink rules.mesh.index.fields f.head ≡ false → comes_before rules f.tail f.head ≡ true
parent_before rules mesh falls p f here inner =
    let most = falls p f here inner in
    let rises = levels_rise rules.mesh mesh p f here in
    elim (cases_lt (score rules f.head) (score rules f.tail)) [
      | inl less ↦ (decides_before rules f.tail f.head).1 (inl less)
      | inr least ↦ (decides_before rules f.tail f.head).1 (inr (omega arith, inl rises))
    ]

same_item : (order : List ℕ) (i j u v : ℕ) → i ≡ j → slice_get order i ≡ Some u → slice_get order j ≡ Some v → u ≡ v
same_item order i j u v same at_i at_j = let e = ap (λ (k : ℕ). slice_get order k) same in cc

-- at places of the order a parent stands before its child
pub parents_first : (rules : Rules) → IsMesh rules.mesh → FallsAlong rules → (p : ℕ) (f : PatchField) → slice_get rules.mesh.index.fields p ≡ Some f → (i j : ℕ) → slice_get (node_order rules) i ≡ Some f.tail → slice_get (node_order rules) j ≡ Some f.head → i < j
parents_first rules mesh falls p f here i j at_i at_j =
    let child = each_at (IsInnerNode rules) (node_order rules) j f.head at_j (order_is_inner rules) in
    let before = parent_before rules mesh falls p f here (inner_no_sink rules.mesh.index.fields f.head child.inner) in
    let one_way = before_one_way rules f.tail f.head before in
    elim (cases_order i j) [
      | inr (inl less) ↦ less
      | inl same ↦ absurd (let tail = same_item (node_order rules) i j f.tail f.head same at_i at_j in let never = before_never_itself rules f.head in let self = subst (λ (v : ℕ). comes_before rules v f.head ≡ true) tail before in cc)
      | inr (inr more) ↦ absurd (let back = ascends_at rules (node_order rules) (order_ascends rules) j i f.head f.tail more at_j at_i in cc)
    ]

-- an inner parent has a place before its child's
pub inner_parent_first : (rules : Rules) → IsMesh rules.mesh → FallsAlong rules → (p : ℕ) (f : PatchField) → slice_get rules.mesh.index.fields p ≡ Some f → is_inner rules.mesh.index.fields f.tail ≡ true → (j : ℕ) → slice_get (node_order rules) j ≡ Some f.head → (i : ℕ) × (i < j) × (slice_get (node_order rules) i ≡ Some f.tail)
inner_parent_first rules mesh falls p f here inner j at_j =
    let place = order_has rules f.tail (record { node = (ends_of_patch rules.mesh.index mesh.rules p f here).tail; inner = inner }) in
    (place.0, parents_first rules mesh falls p f here place.0 j place.1 at_j, place.1)

-- ---- scores of nodes fall along the arcs of a mesh

item_at : (nodes : List Node) (v : ℕ) → v < length nodes → (u : Node) × (slice_get nodes v ≡ Some u)
item_at [] v h = absurd (omega arith)
item_at (u ∷ us) zero h = (u, refl)
item_at (u ∷ us) (suc v) h = item_at us v (omega arith)

index_of_map : (g : Node → ℕ) (nodes : List Node) (v : ℕ) (w : Node) → slice_get nodes v ≡ Some w → slice_index (map g nodes) v ≡ g w
index_of_map g [] v w h = absurd (cc)
index_of_map g (u ∷ us) zero w h = ap g (first_is u w h)
index_of_map g (u ∷ us) (suc v) w h = index_of_map g us v w h

nested_tells : (test : Node → Node → Bool) (fields : List PatchField) (tail head : Option Node) (v : ℕ) (u w : Node) → tail ≡ Some u → head ≡ Some w → nested_by test fields tail head v ≡ true → is_sink fields v ≡ false → test u w ≡ true
nested_tells test fields tail head v u w is_tail is_head h inner =
    let at_tail = subst (λ (o : Option Node). nested_by test fields o head v ≡ true) is_tail h in
    let at_both = subst (λ (o : Option Node). nested_by test fields (Some u) o v ≡ true) is_head at_tail in
    elim (or_cases (is_sink fields v) (test u w) at_both) [
      | inl sink ↦ absurd (cc)
      | inr passes ↦ passes
    ]

-- the rules' scores are those of the nodes from an eye
pub record AreScoresFrom (eye : Point) (focal : ℕ) (rules : Rules) : Type 0 where
  pub scores : rules.scores ≡ map (score_of eye focal) rules.mesh.index.nodes

pub falls_from_eye : (eye : Point) (focal : ℕ) (rules : Rules) → IsMesh rules.mesh → AreScoresFrom eye focal rules → FallsAlong rules
falls_from_eye eye focal rules mesh are p f here inner =
    let index = rules.mesh.index in
    let ends = ends_of_patch index mesh.rules p f here in
    let tail = item_at index.nodes f.tail ends.tail in
    let head = item_at index.nodes f.head ends.head in
    let errors = nested_tells has_no_more_error index.fields (slice_get index.nodes f.tail) (slice_get index.nodes f.head) f.head tail.0 head.0 tail.1 head.1 (mesh.graph.errors p f here) inner in
    let balls = nested_tells has_ball_within index.fields (slice_get index.nodes f.tail) (slice_get index.nodes f.head) f.head tail.0 head.0 tail.1 head.1 (mesh.graph.balls p f here) inner in
    let of_tail = ap (λ (scores : List ℕ). slice_index scores f.tail) are.scores ∙ index_of_map (score_of eye focal) index.nodes f.tail tail.0 tail.1 in
    let of_head = ap (λ (scores : List ℕ). slice_index scores f.head) are.scores ∙ index_of_map (score_of eye focal) index.nodes f.head head.0 head.1 in
    let falls = score_falls eye focal tail.0 head.0 errors balls in
    omega (arith, of_tail, of_head, falls)

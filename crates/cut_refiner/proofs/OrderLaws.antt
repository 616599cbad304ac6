-- Where the children of a node stand in the order, and what can join.
use Rattle.std.proofs.Common.{◌≡◌, ℕ, zero, suc, ◌<◌, ◌≤◌, Bool, true, false, not, ◌&&◌, ◌||◌, eqb, List, [], ◌∷◌, ◌++◌, length, replicate, Some, refl, sym, ap, subst, ◌∙◌, arith, inl, inr}
use Rattle.std.specs.Prelude.{slice_get, slice_index}
use Rattle.std.specs.List.{AllByRecursion, list_any}
use Rattle.std.proofs.lemmas.Bool.{cases_Bool, and_parts, or_left, or_right, or_parts, not-true, not_from_true, not_from_false, eq-eqb, false_from_ne_true}
use Rattle.file_model.specs.declared.fields.PatchField.{PatchField}
use Rattle.mesh_model.specs.Graph.{leads_to, is_root, is_sink}
use Rattle.mesh_model.specs.Nets.{one_if}
use Rattle.mesh_model.specs.Accepted.{is_inner}
use Rattle.mesh_model.specs.Meshes.{MeshLists}
use Rattle.round_model.specs.Order.{Rules, comes_before, node_order}
use Rattle.round_model.specs.Rounds.{has, with_member, has_parents, is_wanted, is_tried, root_set}
use Rattle.mesh_laws.specs.Each.{each_at}
use Rattle.mesh_laws.specs.Ends.{HasEnds, each_has_ends}
use Rattle.mesh_laws.specs.Roots.{IsOnlyRoot, only_root_from_roots}
use Rattle.round_laws.specs.Members.{empty_has_none}
use Rattle.round_laws.specs.Ascending.{Ascends, IsInnerNode, order_ascends, order_is_inner, order_has}
use Rattle.round_laws.specs.Parents.{parent_before}
use Rattle.round_laws.specs.Passing.{stands_behind}
use Rattle.round_laws.specs.Cuts.{inner_no_sink, joining_from_test}
use Rattle.cut_refiner.specs.declared.refinement_states.RefinementState.{RefinementState}
use Rattle.cut_refiner.specs.RoundRules.{AreRules}
use Rattle.cut_refiner.specs.GrowingCuts.{missing_of, IsGrowingCut}
use Rattle.round_laws.specs.Among.{is_among}
use Rattle.cut_refiner.specs.RefinementStates.{is_ready, IsWaiting, IsGoing, CanJoin}
use Rattle.round_laws.specs.Among.{among_both, among_at, middle_among, each_among, not_behind}
use Rattle.cut_refiner.proofs.ReadyLaws.{times_none, is_free, parents_tell}

-- ---- inner nodes

any_at : (test : PatchField → Bool) (fields : List PatchField) (p : ℕ) (f : PatchField) → slice_get fields p ≡ Some f → test f ≡ true → list_any test fields ≡ true
any_at test [] p f here passes = absurd (cc)
any_at test (g ∷ gs) zero f here passes = or_left (test g) (list_any test gs) (ap test (same here) ∙ passes)
  where
    same : Some g ≡ Some f → g ≡ f
    same e = cc
any_at test (g ∷ gs) (suc p) f here passes = or_right (test g) (list_any test gs) (any_at test gs p f here passes)

-- a node to which a patch leads is inner where it is no sink
inner_of_arc : (fields : List PatchField) (p : ℕ) (f : PatchField) → slice_get fields p ≡ Some f → is_inner fields f.head ≡ not (is_sink fields f.head)
inner_of_arc fields p f here =
    ap (λ (t : Bool). not (not t || is_sink fields f.head)) (any_at (leads_to f.head) fields p f here (eq-eqb f.head f.head refl))

-- the order has the inner nodes
pub inner_of_order : (rules : Rules) (v : ℕ) → is_among (node_order rules) v ≡ true → IsInnerNode rules v
inner_of_order rules v there = each_among (IsInnerNode rules) (node_order rules) v (order_is_inner rules) there

among_order : (rules : Rules) (v : ℕ) → v < length rules.mesh.index.nodes → is_among (node_order rules) v ≡ is_inner rules.mesh.index.fields v
among_order rules v node =
    elim (cases_Bool (is_inner rules.mesh.index.fields v)) [
      | inl inner ↦ let place = order_has rules v (record { node = node; inner = inner }) in among_at (node_order rules) place.0 v place.1 ∙ sym inner
      | inr outer ↦ false_from_ne_true (is_among (node_order rules) v) (λ there. let inner = (inner_of_order rules v there).inner in absurd (cc)) ∙ sym outer
    ]

-- the head of a patch is a node
pub head_is_node : (rules : Rules) → AreRules rules → (p : ℕ) (f : PatchField) → slice_get rules.mesh.index.fields p ≡ Some f → f.head < length rules.mesh.index.nodes
head_is_node rules are p f here = (each_at (HasEnds (length rules.mesh.index.nodes)) rules.mesh.index.fields p f here (each_has_ends rules.mesh.index are.mesh.rules)).head

-- a child that is no sink stands in the order
child_in_order : (rules : Rules) → AreRules rules → (p : ℕ) (f : PatchField) → slice_get rules.mesh.index.fields p ≡ Some f → is_among (node_order rules) f.head ≡ not (is_sink rules.mesh.index.fields f.head)
child_in_order rules are p f here = among_order rules f.head (head_is_node rules are p f here) ∙ inner_of_arc rules.mesh.index.fields p f here

-- ---- a node of the order joins

module _ (rules : Rules) (are : AreRules rules) (gone rest : List ℕ) (v : ℕ) (order : node_order rules ≡ gone ++ v ∷ rest) where
  ascends : Ascends rules (gone ++ v ∷ rest)
  ascends = subst (Ascends rules) order (order_ascends rules)

  rest_in_order : (u : ℕ) → is_among rest u ≡ true → is_among (node_order rules) u ≡ true
  rest_in_order u there =
      ap (λ (vs : List ℕ). is_among vs u) order ∙ among_both gone (v ∷ rest) u ∙ or_right (is_among gone u) (is_among (v ∷ rest) u) (or_right (eqb v u) (is_among rest u) there)

  child_behind : (p : ℕ) (f : PatchField) → slice_get rules.mesh.index.fields p ≡ Some f → f.tail ≡ v → is_sink rules.mesh.index.fields f.head ≡ false → is_among rest f.head ≡ true
  child_behind p f here tail inner =
      let before = subst (λ (u : ℕ). comes_before rules u f.head ≡ true) tail (parent_before rules are.mesh are.falls p f here inner) in
      let place = order_has rules f.head (record { node = head_is_node rules are p f here; inner = inner_of_arc rules.mesh.index.fields p f here ∙ not_from_false (is_sink rules.mesh.index.fields f.head) inner }) in
      let at = ap (λ (vs : List ℕ). slice_get vs place.0) (sym order) ∙ place.1 in
      let behind = stands_behind rules v f.head gone rest ascends place.0 at before in
      among_at rest behind.0 f.head behind.1

  child_of_node : (p : ℕ) (f : PatchField) → slice_get rules.mesh.index.fields p ≡ Some f → f.tail ≡ v → is_among rest f.head ≡ not (is_sink rules.mesh.index.fields f.head)
  child_of_node p f here tail =
      elim (cases_Bool (is_sink rules.mesh.index.fields f.head)) [
        | inl sink ↦ false_from_ne_true (is_among rest f.head) (λ there. let inner = inner_no_sink rules.mesh.index.fields f.head (inner_of_order rules f.head (rest_in_order f.head there)).inner in absurd (cc)) ∙ sym (not_from_true (is_sink rules.mesh.index.fields f.head) sink)
        | inr inner ↦ child_behind p f here tail inner ∙ sym (not_from_false (is_sink rules.mesh.index.fields f.head) inner)
      ]

  v_among : is_among (node_order rules) v ≡ true
  v_among = ap (λ (vs : List ℕ). is_among vs v) order ∙ middle_among gone rest v

  -- it can join where it is tried
  pub tried_can_join : (refinement : RefinementState) → IsGoing rules rest refinement → is_tried rules refinement.growing.in_cut.items v ≡ true → has refinement.growing.in_cut.items v ≡ false → CanJoin rules rest refinement v
  tried_can_join refinement going tried outside = record {
    going = going;
    node = (inner_of_order rules v v_among).node;
    outside = outside;
    parents = (joining_from_test rules refinement.growing.in_cut.items v tried).parents;
    past = not_behind rules v gone rest ascends;
    children = child_of_node;
  }

-- ---- the root joins first

root_of : (rules : Rules) → AreRules rules → IsOnlyRoot (length rules.mesh.index.nodes) rules.mesh.index.fields rules.mesh.root
root_of rules are = only_root_from_roots (length rules.mesh.index.nodes) rules.mesh.index.fields rules.mesh.root are.mesh.graph.one_root

parents_of_root : (fields : List PatchField) (set : List Bool) (root : ℕ) → AllByRecursion (λ f. leads_to root f ≡ false) fields → has_parents fields set root ≡ true
parents_of_root [] set root none = refl
parents_of_root (f ∷ fs) set root none = ap (λ (t : Bool). (not t || has set f.tail) && has_parents fs set root) none.0 ∙ parents_of_root fs set root none.1

any_of_none : (test : PatchField → Bool) (fields : List PatchField) → AllByRecursion (λ f. test f ≡ false) fields → list_any test fields ≡ false
any_of_none test [] none = refl
any_of_none test (f ∷ fs) none = ap (λ (t : Bool). t || list_any test fs) none.0 ∙ any_of_none test fs none.1

root_apart : (rules : Rules) → AreRules rules → is_among (node_order rules) rules.mesh.root ≡ false
root_apart rules are =
    false_from_ne_true (is_among (node_order rules) rules.mesh.root) (λ there.
    let inner = (inner_of_order rules rules.mesh.root there).inner in
    let is = or_parts (is_root rules.mesh.index.fields rules.mesh.root) (is_sink rules.mesh.index.fields rules.mesh.root) (not-true (is_root rules.mesh.index.fields rules.mesh.root || is_sink rules.mesh.index.fields rules.mesh.root) inner) in
    let none = any_of_none (leads_to rules.mesh.root) rules.mesh.index.fields (root_of rules are).no_patch in
    absurd (cc))

-- before the root an inner node misses a patch
misses_some : (fields : List PatchField) (nodes v : ℕ) → is_inner fields v ≡ true → eqb (missing_of fields (has (replicate nodes false)) v) 0 ≡ false
misses_some fields nodes v inner =
    sym (parents_tell fields (replicate nodes false) v)
    ∙ no_parents fields (or_parts (is_root fields v) (is_sink fields v) (not-true (is_root fields v || is_sink fields v) inner)).0
  where
    step : (leads tail rest any : Bool) → tail ≡ false → (not any ≡ false → rest ≡ false) → not (leads || any) ≡ false → ((not leads || tail) && rest) ≡ false
    step true tail rest any outside go some = ap (λ (t : Bool). t && rest) outside
    step false tail rest any outside go some = go some

    no_parents : (fs : List PatchField) → is_root fs v ≡ false → has_parents fs (replicate nodes false) v ≡ false
    no_parents [] some = absurd (cc)
    no_parents (f ∷ fs) some = step (leads_to v f) (has (replicate nodes false) f.tail) (has_parents fs (replicate nodes false) v) (list_any (leads_to v) fs) (empty_has_none nodes f.tail) (no_parents fs) some

root_can_join : (rules : Rules) → AreRules rules → (refinement : RefinementState) → refinement.growing.in_cut.items ≡ replicate (length rules.mesh.index.nodes) false → IsGrowingCut rules.mesh refinement.growing.in_cut.items refinement.growing.missing.items refinement.growing.size → refinement.candidates.items ≡ [] → length rules.mesh.index.nodes ≤ refinement.candidates.room → CanJoin rules (node_order rules) refinement rules.mesh.root
root_can_join rules are refinement empty growing none room =
    let nodes = length rules.mesh.index.nodes in
    let fields = rules.mesh.index.fields in
    let outside = λ (v : ℕ). ap (λ (s : List Bool). has s v) empty ∙ empty_has_none nodes v in
    record {
      going = record {
        growing = growing;
        waiting = subst (IsWaiting rules (node_order rules) refinement.growing.missing.items) (sym none) (record {
          each = tt;
          once = λ v. times_none v ∙ sym (ap one_if (never_ready v));
        });
        room = room;
        outside = λ v there. outside v;
        gone = [];
        order = refl;
      };
      node = (root_of rules are).node;
      outside = outside rules.mesh.root;
      parents = parents_of_root fields refinement.growing.in_cut.items rules.mesh.root (root_of rules are).no_patch;
      past = root_apart rules are;
      children = λ p f here tail. child_in_order rules are p f here;
    }
  where
    never_ready : (v : ℕ) → is_ready rules (node_order rules) refinement.growing.missing.items v ≡ false
    never_ready v =
        false_from_ne_true (is_ready rules (node_order rules) refinement.growing.missing.items v) (λ ready.
        let parts = and_parts (is_among (node_order rules) v) (is_free rules refinement.growing.missing.items v) ready in
        let inner = inner_of_order rules v parts.0 in
        let free = (and_parts (is_wanted rules v) (eqb (slice_index refinement.growing.missing.items v) 0) parts.1).1 in
        let told = ap (λ n. eqb n 0) (growing.each v inner.node) in
        let some = subst (λ (s : List Bool). eqb (missing_of rules.mesh.index.fields (has s) v) 0 ≡ false) (sym empty) (misses_some rules.mesh.index.fields (length rules.mesh.index.nodes) v inner.inner) in
        absurd (cc))

-- the set of no nodes, as the code makes it
pub empty_can_join : (rules : Rules) → AreRules rules → (lists : MeshLists) (refinement : RefinementState) (count : ℕ) → lists ≡ rules.mesh → refinement.growing.in_cut.items ≡ replicate (length lists.index.nodes) false → IsGrowingCut lists refinement.growing.in_cut.items refinement.growing.missing.items refinement.growing.size → refinement.candidates.items ≡ [] → count ≡ length lists.index.nodes → refinement.candidates.room ≡ count → CanJoin rules (node_order rules) refinement rules.mesh.root
empty_can_join rules are lists refinement count same empty growing none counted room =
    root_can_join rules are refinement
    (subst (λ (m : MeshLists). refinement.growing.in_cut.items ≡ replicate (length m.index.nodes) false) same empty)
    (subst (λ (m : MeshLists). IsGrowingCut m refinement.growing.in_cut.items refinement.growing.missing.items refinement.growing.size) same growing)
    none (let nodes = ap (λ (m : MeshLists). length m.index.nodes) same in omega arith)

pub root_set_is : (rules : Rules) (set : List Bool) (lists : MeshLists) (root : ℕ) → set ≡ replicate (length rules.mesh.index.nodes) false → lists ≡ rules.mesh → root ≡ lists.root → with_member set root ≡ root_set rules
unfolding root_set
root_set_is rules set lists root empty same is =
    ap (λ (s : List Bool). with_member s root) empty ∙ ap (with_member (replicate (length rules.mesh.index.nodes) false)) (is ∙ ap (λ (m : MeshLists). m.root) same)

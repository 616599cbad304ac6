-- A node joins the set: the patches that lead from it are missing no more, one by one.
use Rattle.std.proofs.Common.{◌≡◌, ℕ, ◌+◌, ◌-◌, ◌<◌, ◌≤◌, Bool, true, eqb, List, [], ◌∷◌, length, get_or, Option, Some, refl, sym, ap, subst, ◌∙◌, arith, inl, inr}
use Rattle.std.specs.Prelude.{slice_get, slice_index, slice_set, option_map, unwrap_or}
use Rattle.std.specs.List.{AllByRecursion, sum_by}
use Rattle.std.proofs.lemmas.Bool.{cases_eq, eqb-true, eq-eqb, ne_eqb}
use Rattle.std.proofs.lemmas.List.{get_or-set_same, get_or-set_other, length-set}
use Rattle.std.proofs.lemmas.List.Elements.{All-from_recursion}
use Rattle.std.proofs.lemmas.List.Sums.{sum_by-cons}
use Rattle.std.proofs.lemmas.Option.{slice_get_within}
use Rattle.file_model.specs.declared.fields.PatchField.{PatchField}
use Rattle.file_model.specs.Lists.{IndexLists}
use Rattle.mesh_model.specs.Graph.{leads_to, leads_from, outgoing}
use Rattle.mesh_model.specs.Nets.{one_if}
use Rattle.mesh_model.specs.Meshes.{MeshLists}
use Rattle.round_model.specs.Order.{Rules}
use Rattle.round_model.specs.Rounds.{has, with_member, frame_size}
use Rattle.round_laws.specs.Members.{as_many_members}
use Rattle.cut_refiner.specs.declared.refinement_states.RefinementState.{RefinementState}
use Rattle.cut_refiner.specs.RoundRules.{AreRules}
use Rattle.cut_refiner.specs.GrowingCuts.{heads_at, missing_of, IsGrowingCut, IsGrowing}
use Rattle.round_laws.specs.Among.{is_among}
use Rattle.cut_refiner.specs.RefinementStates.{IsWaiting, IsGoing, CanJoin}
use Rattle.cut_refiner.proofs.PatchLaws.{IsPassingPatch, patches_pass}
use Rattle.cut_refiner.proofs.GrowingCutLaws.{other_has, missing_now, closed_now}

-- the numbers of missing patches are those of the set, and of the patches that are still to be released
pub record IsReleasing (mesh : MeshLists) (set : List Bool) (left missing : List ℕ) : Type 0 where
  pub counts : length missing ≡ length mesh.index.nodes
  pub each : (u : ℕ) → u < length mesh.index.nodes → slice_index missing u ≡ missing_of mesh.index.fields (has set) u + sum_by (heads_at mesh.index.fields u) left

heads_here : (fields : List PatchField) (p u : ℕ) (f : PatchField) → slice_get fields p ≡ Some f → heads_at fields u p ≡ one_if (eqb f.head u)
heads_here fields p u f here = ap (λ (o : Option PatchField). unwrap_or (option_map (λ (g : PatchField). one_if (leads_to u g)) o) 0) here

module _ (mesh : MeshLists) (set : List Bool) (left later missing : List ℕ) (p : ℕ) (f : PatchField) (releasing : IsReleasing mesh set left missing) (is : left ≡ p ∷ later) (here : slice_get mesh.index.fields p ≡ Some f) (head : f.head < length mesh.index.nodes) where
  sum_here : (u : ℕ) → sum_by (heads_at mesh.index.fields u) left ≡ one_if (eqb f.head u) + sum_by (heads_at mesh.index.fields u) later
  sum_here u = ap (sum_by (heads_at mesh.index.fields u)) is ∙ sum_by-cons (heads_at mesh.index.fields u) p later ∙ ap (λ n. n + sum_by (heads_at mesh.index.fields u) later) (heads_here mesh.index.fields p u f here)

  pub is_missed : 0 < slice_index missing f.head
  is_missed = omega (arith, releasing.each f.head head, sum_here f.head, ap one_if (eq-eqb f.head f.head refl))

  pub releases : IsReleasing mesh set later (slice_set missing f.head (slice_index missing f.head - 1))
  releases = record {
    counts = length-set missing f.head (slice_index missing f.head - 1) ∙ releasing.counts;
    each = λ u node. elim (cases_eq u f.head) [
      | inl same ↦ subst (λ (w : ℕ). slice_index (slice_set missing f.head (slice_index missing f.head - 1)) w ≡ missing_of mesh.index.fields (has set) w + sum_by (heads_at mesh.index.fields w) later) (sym same)
          (omega (arith, get_or-set_same missing f.head (slice_index missing f.head - 1) 0 (let many = releasing.counts in omega arith), releasing.each f.head head, sum_here f.head, ap one_if (eq-eqb f.head f.head refl)))
      | inr apart ↦ omega (arith, get_or-set_other missing f.head u (slice_index missing f.head - 1) 0 apart, releasing.each u node, sum_here u, ap one_if (ne_eqb f.head u (λ same. apart (sym same))))
    ];
  }

-- ---- the join as a whole

-- what the code knows of a node that joins
pub joining_grows : (rules : Rules) → AreRules rules → (rest : List ℕ) (refinement : RefinementState) (v : ℕ) → CanJoin rules rest refinement v → IsGrowing rules.mesh refinement.growing.in_cut.items refinement.growing.missing.items refinement.growing.size v
joining_grows rules are rest refinement v can = record { is_mesh = are.mesh; growing = can.going.growing; node = can.node; outside = can.outside; parents = can.parents }

pub releasing_at_start : (rules : Rules) → AreRules rules → (rest : List ℕ) (refinement : RefinementState) (v : ℕ) → CanJoin rules rest refinement v → IsReleasing rules.mesh (with_member refinement.growing.in_cut.items v) (outgoing rules.mesh.index.fields v) refinement.growing.missing.items
releasing_at_start rules are rest refinement v can =
    let set = refinement.growing.in_cut.items in
    let grows = joining_grows rules are rest refinement v can in
    record {
      counts = can.going.growing.counts;
      each = λ u node. can.going.growing.each u node ∙ missing_now rules.mesh set refinement.growing.missing.items refinement.growing.size v grows u;
    }

pub joined : (rules : Rules) → AreRules rules → (rest : List ℕ) (refinement new : RefinementState) (v : ℕ) → CanJoin rules rest refinement v → new.growing.in_cut.items ≡ with_member refinement.growing.in_cut.items v → new.growing.size ≡ frame_size (has (with_member refinement.growing.in_cut.items v)) rules.mesh.index.fields → IsReleasing rules.mesh (with_member refinement.growing.in_cut.items v) [] new.growing.missing.items → IsWaiting rules rest new.growing.missing.items new.candidates.items → length rules.mesh.index.nodes ≤ new.candidates.room → IsGoing rules rest new
joined rules are rest refinement new v can set_is size_is releasing waiting room =
    let set = refinement.growing.in_cut.items in
    let now_set = with_member set v in
    let grows = joining_grows rules are rest refinement v can in
    let growing : IsGrowingCut rules.mesh now_set new.growing.missing.items new.growing.size = record {
      flags = as_many_members set v ∙ can.going.growing.flags;
      counts = releasing.counts;
      closed = closed_now rules.mesh set refinement.growing.missing.items refinement.growing.size v grows;
      each = λ u node. omega (arith, releasing.each u node);
      triangles = size_is;
    } in
    record {
      growing = subst (λ (s : List Bool). IsGrowingCut rules.mesh s new.growing.missing.items new.growing.size) (sym set_is) growing;
      waiting = waiting;
      room = room;
      outside = λ u there. ap (λ (s : List Bool). has s u) set_is ∙ other_has set v u (λ same. let past = can.past in let here = subst (λ (w : ℕ). is_among rest w ≡ true) same there in absurd (cc)) ∙ can.going.outside u there;
      gone = can.going.gone;
      order = can.going.order;
    }

-- ---- what the code reads of a patch

-- the patch has this field and leads from the node
pub record IsArcOf (rules : Rules) (v p : ℕ) (f : PatchField) : Type 0 where
  pub here : slice_get rules.mesh.index.fields p ≡ Some f
  pub tail : f.tail ≡ v

one_field : (f g : PatchField) → Some f ≡ Some g → f ≡ g
one_field f g e = cc

module _ (rules : Rules) (lists : MeshLists) (index : IndexLists) (ps : List ℕ) (v k : ℕ) (same_mesh : lists ≡ rules.mesh) (same_index : index ≡ lists.index) (are_arcs : ps ≡ outgoing lists.index.fields v) (within : k < length ps) where
  same_fields : index.fields ≡ rules.mesh.index.fields
  same_fields = ap (λ (i : IndexLists). i.fields) same_index ∙ ap (λ (m : MeshLists). m.index.fields) same_mesh

  passing : IsPassingPatch (leads_from v) rules.mesh.index.fields (get_or ps k 0)
  passing =
      let same = are_arcs ∙ ap (λ (m : MeshLists). outgoing m.index.fields v) same_mesh in
      All-from_recursion (IsPassingPatch (leads_from v) rules.mesh.index.fields) ps
      (subst (AllByRecursion (IsPassingPatch (leads_from v) rules.mesh.index.fields)) (sym same) (patches_pass (leads_from v) rules.mesh.index.fields)) k 0 within

  pub arc_in_range : get_or ps k 0 < length index.fields
  arc_in_range = subst (λ (fs : List PatchField). get_or ps k 0 < length fs) (sym same_fields) (slice_get_within rules.mesh.index.fields (get_or ps k 0) passing.field passing.there)

  pub arc_read : (f : PatchField) → slice_get index.fields (get_or ps k 0) ≡ Some f → IsArcOf rules v (get_or ps k 0) f
  arc_read f read =
      let here = ap (λ (fs : List PatchField). slice_get fs (get_or ps k 0)) (sym same_fields) ∙ read in
      let same = one_field passing.field f (sym passing.there ∙ here) in
      record { here = here; tail = ap (λ (g : PatchField). g.tail) (sym same) ∙ eqb-true passing.field.tail v passing.passes }

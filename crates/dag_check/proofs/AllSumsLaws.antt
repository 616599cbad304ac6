-- What is kept of the nodes stays true when a body is taken.
use Rattle.std.specs.Prelude.{◌≡◌, ◌≢◌, ◌⊎◌, ℕ, ◌≤◌, List, length, slice_get, Some, Option, refl}
use Rattle.std.proofs.Common.{sym, ap, ◌∙◌, subst, inl, inr, set, length-set, eq-eqb, arith}
use Rattle.std.proofs.lemmas.Bool.{ne_eqb, cases_eq}
use Rattle.std.proofs.lemmas.Option.{slice_get_within, same_Some}
use Rattle.file_model.specs.declared.fields.PatchField.{PatchField}
use Rattle.file_model.specs.Lists.{BodyLists, IndexLists}
use Rattle.edge_chain.specs.declared.differences.Difference.{Difference}
use Rattle.mesh_model.specs.declared.sides.NodeSide.{NodeSide}
use Rattle.dag_check.specs.declared.node_sums.NodeSums.{NodeSums}
use Rattle.dag_check.specs.declared.borders.BorderDifference.{BorderDifference}
use Rattle.dag_check.specs.Added.{file_with}
use Rattle.dag_check.specs.Borders.{lesser_border, HasBorderDifference}
use Rattle.mesh_model.specs.Sides.{node_on}
use Rattle.dag_check.specs.NodeSums.{Taken, taken_on, one_more, Takes, outer, more, last, AreNodeSums, NodeSumsFollow}
use Rattle.dag_check.specs.AllNodeSums.{AllSumsSeen, TakesAt, AreAllSums, IsCompared, AllSumsFollow}
use Rattle.mesh_graph.specs.ListReads.{slice_get-set_same, slice_get-set_other}
use Rattle.dag_check.proofs.ListLaws.{set_read}
use Rattle.dag_check.proofs.NodeSumLaws.{other_node, own_node, IsDone, last_is}
use Rattle.dag_check.proofs.FollowLaws.{IsNext, other_follows, own_follows, grown_follows, compared_nets}
use Rattle.dag_check.proofs.BorderLaws.{border_stays, AddsNode, border_more}

-- a fact of each node's sums, as one is replaced
each_set : (P : ℕ → NodeSums → Type 0) (Q : ℕ → NodeSums → Type 0) (node_sums : List NodeSums) (node : ℕ) (after : NodeSums) → Q node after → ((v : ℕ) (t : NodeSums) → v ≢ node → P v t → Q v t) → ((v : ℕ) (t : NodeSums) → slice_get node_sums v ≡ Some t → P v t) → (v : ℕ) (t : NodeSums) → slice_get (set node_sums node after) v ≡ Some t → Q v t
each_set P Q node_sums node after here others h v t at =
    elim (set_read node_sums node v t after at) [
      | inl e ↦ subst (λ (u : ℕ). Q u t) (sym e.0) (subst (λ (s : NodeSums). Q node s) (sym e.1) here)
      | inr e ↦ others v t e.0 (h v t e.1)
    ]

pub step_is : (side : NodeSide) (index : IndexLists) (taken : Taken) (f : PatchField) (body : BodyLists) (before after : AllSumsSeen) → slice_get index.fields (taken_on side taken) ≡ Some f → length body.corners ≤ 65535 → TakesAt side (node_on side f) body before after → AreAllSums index taken before → AreAllSums index (one_more side taken) after
step_is side index taken f body before after at small takes h = record {
  as_many = ap length takes.node_sums ∙ length-set before.node_sums (node_on side f) takes.empty_node_sums ∙ h.as_many;
  are_node_sums = subst (λ (ts : List NodeSums). (v : ℕ) (t : NodeSums) → slice_get ts v ≡ Some t → AreNodeSums index.fields (one_more side taken) v t) (sym takes.node_sums)
      (each_set (AreNodeSums index.fields taken) (AreNodeSums index.fields (one_more side taken)) before.node_sums (node_on side f) takes.empty_node_sums
      (own_node side index.fields taken (node_on side f) f body takes.old_sums takes.empty_node_sums takes.difference at (eq-eqb (node_on side f) (node_on side f) refl) small takes.takes (h.are_node_sums (node_on side f) takes.old_sums takes.there))
      (λ v t apart is. other_node side index.fields taken v f t at (ne_eqb (node_on side f) v (λ e. apart (sym e))) is) h.are_node_sums);
  open_nodes = takes.open_nodes;
}

-- a node other than the one that changes is compared as before
compared_other : (node_sums : List NodeSums) (node v : ℕ) (after : NodeSums) → v ≢ node → IsCompared node_sums v → IsCompared (set node_sums node after) v
compared_other node_sums node v after apart h = record { sums_at = h.sums_at; there = slice_get-set_other node_sums node v after apart ∙ h.there; done = h.done }

compared_here : (node_sums : List NodeSums) (node : ℕ) (before after : NodeSums) → slice_get node_sums node ≡ Some before → after.left ≡ 0 → IsCompared (set node_sums node after) node
compared_here node_sums node before after there e = record { sums_at = after; there = slice_get-set_same node_sums node after (slice_get_within node_sums node before there); done = e }

compared_which : (node_sums : List NodeSums) (node v : ℕ) (after : NodeSums) → IsCompared (set node_sums node after) v → ((v ≡ node) × (after.left ≡ 0)) ⊎ IsCompared node_sums v
compared_which node_sums node v after h =
    elim (set_read node_sums node v h.sums_at after h.there) [
      | inl e ↦ inl (e.0, sym (ap (λ (t : NodeSums). t.left) e.1) ∙ h.done)
      | inr e ↦ inr (record { sums_at = h.sums_at; there = e.1; done = h.done })
    ]

-- what is left of a node that is compared
left_there : (node_sums : List NodeSums) (node : ℕ) (before : NodeSums) → slice_get node_sums node ≡ Some before → IsCompared node_sums node → before.left ≡ 0
left_there node_sums node before there h = ap (λ (t : NodeSums). t.left) (same_Some before h.sums_at (sym there ∙ h.there)) ∙ h.done

-- where the changed node is compared as before, each is
same_on : (node_sums : List NodeSums) (node : ℕ) (before after : NodeSums) → slice_get node_sums node ≡ Some before → (before.left ≡ 0 → after.left ≡ 0) → (v : ℕ) → IsCompared node_sums v → IsCompared (set node_sums node after) v
same_on node_sums node before after there on v h =
    elim (cases_eq v node) [
      | inl e ↦ subst (λ (u : ℕ). IsCompared (set node_sums node after) u) (sym e) (compared_here node_sums node before after there (on (left_there node_sums node before there (subst (λ (u : ℕ). IsCompared node_sums u) e h))))
      | inr apart ↦ compared_other node_sums node v after apart h
    ]

same_back : (node_sums : List NodeSums) (node : ℕ) (before after : NodeSums) → slice_get node_sums node ≡ Some before → (after.left ≡ 0 → before.left ≡ 0) → (v : ℕ) → IsCompared (set node_sums node after) v → IsCompared node_sums v
same_back node_sums node before after there back v h =
    elim (compared_which node_sums node v after h) [
      | inl e ↦ subst (λ (u : ℕ). IsCompared node_sums u) (sym e.0) (record { sums_at = before; there = there; done = back e.1 })
      | inr b ↦ b
    ]

adds_node : (node_sums : List NodeSums) (node : ℕ) (before after : NodeSums) → slice_get node_sums node ≡ Some before → after.left ≡ 0 → AddsNode node (IsCompared node_sums) (IsCompared (set node_sums node after))
adds_node node_sums node before after there e = record {
  on = same_on node_sums node before after there (λ _. e);
  here = compared_here node_sums node before after there e;
  back = λ v h. elim (compared_which node_sums node v after h) [ inl k ↦ inl k.0 | inr b ↦ inr b ];
}

-- the least border difference, as a body is taken on one side of a node
border_taken : (side : NodeSide) (index : IndexLists) (taken : Taken) (bodies : List BodyLists) (f : PatchField) (body : BodyLists) (node_sums : List NodeSums) (found : Option BorderDifference) (before after : NodeSums) (difference : Option Difference) → IsNext side index.fields taken bodies f body → AreNodeSums index.fields taken (node_on side f) before → NodeSumsFollow index.fields taken bodies (node_on side f) before → slice_get node_sums (node_on side f) ≡ Some before → Takes side body before after difference → HasBorderDifference (file_with index bodies) (IsCompared node_sums) found → HasBorderDifference (file_with index bodies) (IsCompared (set node_sums (node_on side f) after)) (lesser_border found (node_on side f) difference)
border_taken side index taken bodies f body node_sums found before after difference next is follows there (outer e same one) h =
    let still : after.left ≡ before.left = ap (λ (t : NodeSums). t.left) same in
    subst (λ (d : Option Difference). HasBorderDifference (file_with index bodies) (IsCompared (set node_sums (node_on side f) after)) (lesser_border found (node_on side f) d)) (sym one)
    (border_stays (file_with index bodies) (IsCompared node_sums) (IsCompared (set node_sums (node_on side f) after)) found (same_on node_sums (node_on side f) before after there (λ z. still ∙ z)) (same_back node_sums (node_on side f) before after there (λ z. sym still ∙ z)) h)
border_taken side index taken bodies f body node_sums found before after difference next is follows there (more some g low one) h =
    subst (λ (d : Option Difference). HasBorderDifference (file_with index bodies) (IsCompared (set node_sums (node_on side f) after)) (lesser_border found (node_on side f) d)) (sym one)
    (border_stays (file_with index bodies) (IsCompared node_sums) (IsCompared (set node_sums (node_on side f) after)) found (same_on node_sums (node_on side f) before after there (λ z. absurd (omega (arith, g.left)))) (same_back node_sums (node_on side f) before after there (λ z. absurd (omega arith))) h)
border_taken side index taken bodies f body node_sums found before after difference next is follows there (last some grown g e same compares) h =
    let here = eq-eqb (node_on side f) (node_on side f) refl in
    let done : IsDone index.fields (one_more side taken) (node_on side f) = last_is side index.fields taken (node_on side f) f body before grown next.field here some g e is in
    border_more (file_with index bodies) (IsCompared node_sums) (IsCompared (set node_sums (node_on side f) after)) found (node_on side f) difference done.inner
    (adds_node node_sums (node_on side f) before after there (ap (λ (t : NodeSums). t.left) same ∙ e))
    (compared_nets index (one_more side taken) bodies (node_on side f) grown difference done.none_left (grown_follows side index.fields taken bodies f body (node_on side f) before grown next here g follows) compares)
    h

pub step_follows : (side : NodeSide) (index : IndexLists) (taken : Taken) (bodies : List BodyLists) (f : PatchField) (body : BodyLists) (before after : AllSumsSeen) → IsNext side index.fields taken bodies f body → TakesAt side (node_on side f) body before after → AreAllSums index taken before → AllSumsFollow index taken bodies before → AllSumsFollow index (one_more side taken) bodies after
step_follows side index taken bodies f body before after next takes is h =
    let node : ℕ = node_on side f in
    let old_is = is.are_node_sums node takes.old_sums takes.there in
    let old_follows = h.node_sums node takes.old_sums takes.there in
    record {
      node_sums = subst (λ (ts : List NodeSums). (v : ℕ) (t : NodeSums) → slice_get ts v ≡ Some t → NodeSumsFollow index.fields (one_more side taken) bodies v t) (sym takes.node_sums)
          (each_set (NodeSumsFollow index.fields taken bodies) (NodeSumsFollow index.fields (one_more side taken) bodies) before.node_sums node takes.empty_node_sums
          (own_follows side index.fields taken bodies f body node takes.old_sums takes.empty_node_sums takes.difference next (eq-eqb node node refl) old_is takes.takes old_follows)
          (λ v t apart follows. other_follows side index.fields taken bodies f body v t next (ne_eqb node v (λ e. apart (sym e))) follows) h.node_sums);
      border_found = subst (λ (ts : List NodeSums). HasBorderDifference (file_with index bodies) (IsCompared ts) after.border_found) (sym takes.node_sums)
          (subst (λ (g : Option BorderDifference). HasBorderDifference (file_with index bodies) (IsCompared (set before.node_sums node takes.empty_node_sums)) g) (sym takes.border_found)
          (border_taken side index taken bodies f body before.node_sums before.border_found takes.old_sums takes.empty_node_sums takes.difference next old_is old_follows takes.there takes.takes h.border_found));
    }

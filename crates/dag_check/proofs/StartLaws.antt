-- What is kept before any body was added.
use Rattle.std.specs.Prelude.{◌≡◌, ℕ, ◌<◌, Bool, true, false, List, [], ◌∷◌, ◌++◌, length, nat_lt, Option, refl, if◌then◌else◌}
use Rattle.std.proofs.Common.{sym, ap, ◌∙◌, subst, inl, inr, arith}
use Rattle.std.proofs.lemmas.Bool.{le-ltb, and_right}
use Rattle.file_model.specs.declared.fields.PatchField.{PatchField}
use Rattle.file_model.specs.Lists.{BodyLists, IndexLists}
use Rattle.mesh_model.specs.Nets.{one_if}
use Rattle.mesh_model.specs.Accepted.{is_inner}
use Rattle.mesh_model.specs.declared.sides.NodeSide.{NodeSide}
use Rattle.mesh_model.specs.declared.sides.NodeSide.TheVariants.{Incoming, Outgoing}
use Rattle.dag_check.specs.declared.node_sums.NodeSums.{NodeSums}
use Rattle.dag_check.specs.declared.borders.BorderDifference.{BorderDifference}
use Rattle.dag_check.specs.Added.{file_with}
use Rattle.dag_check.specs.Borders.{HasBorderDifference}
use Rattle.mesh_model.specs.Sides.{is_on}
use Rattle.dag_check.specs.NodeSums.{taken_on, taken_both, to_come, inner_patches, empty_node_sums, chain_on, is_under_way, IsSum, AreNodeSums, NodeSumsFollow}
use Rattle.dag_check.specs.AllNodeSums.{AllSumsSeen, AreNew, IsNew, AreAllSums, IsCompared, AllSumsFollow}
use Rattle.dag_check.proofs.AddedLaws.{first_triangles-zero, along}
use Rattle.dag_check.proofs.CountLaws.{inner_has}
use Rattle.dag_check.proofs.ListLaws.{push_read}
use Rattle.dag_check.proofs.NodeSumLaws.{empty_net, empty_sum}
use Rattle.dag_check.proofs.SumLaws.{sum_by_few}

rests : (n : ℕ) → is_under_way (empty_node_sums n) ≡ false
rests n = and_right (nat_lt 0 n) (nat_lt n n) (le-ltb n n (omega arith))

new_sums : (n m : ℕ) (s : NodeSide) → IsSum m (chain_on s (empty_node_sums n))
new_sums n m Incoming = empty_sum m
new_sums n m Outgoing = empty_sum m

new_sums_are : (fields : List PatchField) (v : ℕ) → AreNodeSums fields (taken_both 0) v (empty_node_sums (inner_patches fields v))
new_sums_are fields v = record {
  total = refl;
  left = refl;
  dropped = λ _. record { incoming = refl; outgoing = refl };
  sums = λ s. new_sums (inner_patches fields v) (taken_on s (taken_both 0)) s;
}

-- one node's sums more
pub new_push : (fields : List PatchField) (node_sums : List NodeSums) (t : NodeSums) → t ≡ empty_node_sums (inner_patches fields (length node_sums)) → AreNew fields node_sums → AreNew fields (node_sums ++ t ∷ [])
new_push fields node_sums t here h v s at =
    elim (push_read node_sums t v s at) [
      | inl there ↦ h v s there
      | inr e ↦ e.1 ∙ here ∙ ap (λ (n : ℕ). empty_node_sums (inner_patches fields n)) (sym e.0)
    ]

pub new_is : (index : IndexLists) (all_sums : AllSumsSeen) → IsNew index all_sums → AreAllSums index (taken_both 0) all_sums
new_is index all_sums h = record {
  as_many = h.as_many;
  are_node_sums = λ v t at. subst (λ (s : NodeSums). AreNodeSums index.fields (taken_both 0) v s) (sym (h.new_node_sums v t at)) (new_sums_are index.fields v);
  open_nodes = omega (arith, h.open_nodes, sum_by_few (λ (t : NodeSums). one_if (is_under_way t)) 0 all_sums.node_sums (λ v t at. omega (arith, ap (λ (s : NodeSums). one_if (is_under_way s)) (h.new_node_sums v t at), ap one_if (rests (inner_patches index.fields v)))));
}

new_holds : (fields : List PatchField) (bodies : List BodyLists) (v n : ℕ) → NodeSumsFollow fields (taken_both 0) bodies v (empty_node_sums n)
new_holds fields bodies v n low Incoming = along (sym (first_triangles-zero (is_on Incoming v) fields bodies)) empty_net
new_holds fields bodies v n low Outgoing = along (sym (first_triangles-zero (is_on Outgoing v) fields bodies)) empty_net

-- a node to which nothing is to come at first isn't inner
none_inner : (inner : Bool) (patches left : ℕ) → left ≡ (if inner then patches else 0) → (inner ≡ true → 0 < patches) → left ≡ 0 → inner ≡ true → ⊥
none_inner true patches left e some done here = omega (arith, some here)
none_inner false patches left e some done here = cc

pub new_follows : (index : IndexLists) (all_sums : AllSumsSeen) (bodies : List BodyLists) → IsNew index all_sums → AllSumsFollow index (taken_both 0) bodies all_sums
new_follows index all_sums bodies h = record {
  node_sums = λ v t at. subst (λ (s : NodeSums). NodeSumsFollow index.fields (taken_both 0) bodies v s) (sym (h.new_node_sums v t at)) (new_holds index.fields bodies v (inner_patches index.fields v));
  border_found = subst (λ (g : Option BorderDifference). HasBorderDifference (file_with index bodies) (IsCompared all_sums.node_sums) g) (sym h.border_found)
      (λ v compared inner. absurd (none_inner (is_inner index.fields v) (to_come index.fields (taken_both 0) v) compared.sums_at.left (ap (λ (t : NodeSums). t.left) (h.new_node_sums v compared.sums_at compared.there)) (inner_has index.fields v) compared.done inner));
}

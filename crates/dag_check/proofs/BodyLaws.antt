-- What a checker keeps stays true when a body is added.
use Rattle.std.specs.Prelude.{◌≡◌, ◌+◌, ◌≤◌, List, length, slice_get, Some, nat_le, refl}
use Rattle.std.proofs.Common.{sym, add-one, arith}
use Rattle.std.proofs.lemmas.Bool.{and_parts, eq-eqb, leb-true}
use Rattle.std.proofs.lemmas.Option.{slice_get_within}
use Rattle.file_model.specs.declared.fields.PatchField.{PatchField}
use Rattle.file_model.specs.Lists.{BodyLists, IndexLists}
use Rattle.file_model.specs.Rules.{IsIndex}
use Rattle.mesh_model.specs.Graph.{leads_from}
use Rattle.edge_chain.specs.Chains.{Chain}
use Rattle.mesh_model.specs.declared.sides.NodeSide.{NodeSide}
use Rattle.mesh_model.specs.declared.sides.NodeSide.TheVariants.{Incoming, Outgoing}
use Rattle.dag_check.specs.Added.{AddsToBase}
use Rattle.mesh_model.specs.Sides.{node_on}
use Rattle.dag_check.specs.NodeSums.{Taken, taken_on, taken_both, one_more, chain_on}
use Rattle.dag_check.specs.AllNodeSums.{AllSumsSeen, IsSummed, IsReady, TakesAt, AreAllSums}
use Rattle.dag_check.specs.Checkers.{CheckerSeen, IsChecker, Follows}
use Rattle.dag_check.proofs.AddedLaws.{first_triangles-suc, along}
use Rattle.dag_check.proofs.IndexLaws.{few_patches}
use Rattle.dag_check.proofs.NodeSumLaws.{is_ready, sum_more}
use Rattle.dag_check.proofs.AllSumsLaws.{step_is, step_follows}

few_nodes : (index : IndexLists) → IsIndex index → length index.nodes ≤ 65536
few_nodes index rules = leb-true (length index.nodes) 65536 (and_parts (nat_le 2 (length index.nodes)) (nat_le (length index.nodes) 65536) rules.node_count).1

-- the counts have room for a body
pub summed_of : (index : IndexLists) (taken : Taken) (all_sums : AllSumsSeen) → IsIndex index → ((s : NodeSide) → taken_on s taken ≤ 65536) → AreAllSums index taken all_sums → IsSummed all_sums
summed_of index taken all_sums rules low h = record {
  few_nodes = omega (arith, h.as_many, few_nodes index rules);
  sums = λ v t at s. sum_more (taken_on s taken) 65536 (chain_on s t) (low s) ((h.are_node_sums v t at).sums s);
  open_nodes = h.open_nodes;
}

pub ready_of : (side : NodeSide) (index : IndexLists) (taken : Taken) (f : PatchField) (all_sums : AllSumsSeen) → slice_get index.fields (taken_on side taken) ≡ Some f → AreAllSums index taken all_sums → IsReady (node_on side f) all_sums.node_sums
ready_of side index taken f all_sums at h t there =
    is_ready side index.fields taken (node_on side f) f t at (eq-eqb (node_on side f) (node_on side f) refl) (h.are_node_sums (node_on side f) t there)

pub low_at_first : (checker : CheckerSeen) → IsChecker checker → (s : NodeSide) → taken_on s (taken_both checker.next) ≤ 65536
low_at_first checker is Incoming = omega (arith, is.within, few_patches checker.index is.rules)
low_at_first checker is Outgoing = omega (arith, is.within, few_patches checker.index is.rules)

pub low_between : (checker : CheckerSeen) (f : PatchField) → IsChecker checker → slice_get checker.index.fields checker.next ≡ Some f → (s : NodeSide) → taken_on s (one_more Incoming (taken_both checker.next)) ≤ 65536
low_between checker f is at Incoming = omega (arith, slice_get_within checker.index.fields checker.next f at, few_patches checker.index is.rules)
low_between checker f is at Outgoing = omega (arith, is.within, few_patches checker.index is.rules)

-- the base and the nodes on the patch's two sides take a body
pub record TakesBody (checker : CheckerSeen) (f : PatchField) (body : BodyLists) (base : Chain) (between after : AllSumsSeen) : Type 0 where
  pub field : slice_get checker.index.fields checker.next ≡ Some f
  pub few : length body.corners ≤ 65535
  pub base_count : base.count ≤ checker.base.count + length body.corners
  pub base_nets : AddsToBase checker.graph.verdict f.tail body checker.base base
  pub incoming : TakesAt Incoming f.head body checker.all_sums between
  pub outgoing : TakesAt Outgoing f.tail body between after

abbrev pub with_body : CheckerSeen → Chain → AllSumsSeen → CheckerSeen
with_body checker base all_sums = record { index = checker.index; graph = checker.graph; next = checker.next + 1; base = base; all_sums = all_sums }

pub between_is : (checker : CheckerSeen) (f : PatchField) (body : BodyLists) (between : AllSumsSeen) → IsChecker checker → slice_get checker.index.fields checker.next ≡ Some f → length body.corners ≤ 65535 → TakesAt Incoming f.head body checker.all_sums between → AreAllSums checker.index (one_more Incoming (taken_both checker.next)) between
between_is checker f body between is at small takes = step_is Incoming checker.index (taken_both checker.next) f body checker.all_sums between at small takes is.all_sums

pub takes_is : (checker : CheckerSeen) (f : PatchField) (body : BodyLists) (base : Chain) (between after : AllSumsSeen) → IsChecker checker → TakesBody checker f body base between after → IsChecker (with_body checker base after)
takes_is checker f body base between after is takes = record {
  rules = is.rules;
  graph = is.graph;
  within = omega (arith, slice_get_within checker.index.fields checker.next f takes.field);
  few = omega (arith, takes.base_count, takes.few, is.few);
  all_sums = step_is Outgoing checker.index (one_more Incoming (taken_both checker.next)) f body between after takes.field takes.few takes.outgoing (between_is checker f body between is takes.field takes.few takes.incoming);
}

pub takes_follows : (checker : CheckerSeen) (f : PatchField) (body : BodyLists) (base : Chain) (between after : AllSumsSeen) → IsChecker checker → TakesBody checker f body base between after → (bodies : List BodyLists) → slice_get bodies checker.next ≡ Some body → Follows checker bodies → Follows (with_body checker base after) bodies
takes_follows checker f body base between after is takes bodies at h = record {
  base = λ root e. along (sym (rw add-one (first_triangles-suc checker.next (leads_from root) checker.index.fields bodies f body takes.field at))) (takes.base_nets root e _ (h.base root e));
  all_sums = step_follows Outgoing checker.index (one_more Incoming (taken_both checker.next)) bodies f body between after (record { field = takes.field; lists = at }) takes.outgoing
      (between_is checker f body between is takes.field takes.few takes.incoming)
      (step_follows Incoming checker.index (taken_both checker.next) bodies f body checker.all_sums between (record { field = takes.field; lists = at }) takes.incoming is.all_sums h.all_sums);
}

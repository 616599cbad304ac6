-- What the rules of an index say of its patches and of its graph.
use Rattle.std.specs.Prelude.{◌≡◌, ℕ, ◌<◌, ◌≤◌, List, length, slice_get, Some, nat_le, nat_lt}
use Rattle.std.proofs.Common.{sym, ap, ◌∙◌, subst, arith}
use Rattle.std.proofs.lemmas.Bool.{and_parts, ltb-true, leb-true}
use Rattle.std.proofs.lemmas.Option.{same_Some}
use Rattle.file_model.specs.declared.fields.Node.{Node}
use Rattle.file_model.specs.declared.fields.PatchField.{PatchField}
use Rattle.file_model.specs.Lists.{IndexLists}
use Rattle.file_model.specs.Rules.{IsIndex, is_field, has_ends, has_counts}
use Rattle.mesh_model.specs.Graph.{incoming, outgoing, leads_to, leads_from}
use Rattle.mesh_graph.specs.NearGrid.{each_passes}
use Rattle.mesh_graph.specs.Graphs.{GraphSeen, IsGraphOf, index_of}
use Rattle.mesh_model.specs.declared.sides.NodeSide.TheVariants.{Incoming, Outgoing}
use Rattle.mesh_model.specs.Sides.{is_on}
use Rattle.dag_check.specs.NodeSums.{how_many}
use Rattle.dag_check.proofs.CountLaws.{length-patches, how_many-le}

-- the patch leads from a node to a node
pub record Ends (index : IndexLists) (f : PatchField) : Type 0 where
  pub tail : f.tail < length index.nodes
  pub head : f.head < length index.nodes

pub ends_of : (index : IndexLists) (n : ℕ) (f : PatchField) → IsIndex index → slice_get index.fields n ≡ Some f → Ends index f
ends_of index n f rules at =
    let passes = each_passes (is_field (length index.nodes)) index.fields n f rules.fields at in
    let ends = and_parts (nat_lt f.tail (length index.nodes)) (nat_lt f.head (length index.nodes)) (and_parts (has_ends (length index.nodes) f) (has_counts f) passes).0 in
    record { tail = ltb-true f.tail (length index.nodes) ends.0; head = ltb-true f.head (length index.nodes) ends.1 }

pub few_patches : (index : IndexLists) → IsIndex index → length index.fields ≤ 65536
few_patches index rules = leb-true (length index.fields) 65536 (and_parts (nat_le 1 (length index.fields)) (nat_le (length index.fields) 65536) rules.patch_count).1

pub graph_of : (index : IndexLists) (nodes : List Node) (fields : List PatchField) (graph : GraphSeen) → nodes ≡ index.nodes → fields ≡ index.fields → ((version : ℕ) → IsGraphOf (index_of version nodes fields) graph) → IsGraphOf index graph
graph_of index nodes fields graph same_nodes same_fields h =
    subst (λ (fs : List PatchField). IsGraphOf (index_of index.version index.nodes fs) graph) same_fields
    (subst (λ (ns : List Node). IsGraphOf (index_of index.version ns fields) graph) same_nodes (h index.version))

-- a node has as many incoming patches as lead to it, and no more than there are
pub record HasPatches (count patches : ℕ) : Type 0 where
  pub count_is : count ≡ patches
  pub few : count ≤ 65536

pub incoming_has : (index : IndexLists) (graph : GraphSeen) (v : ℕ) (patches : List ℕ) → IsIndex index → IsGraphOf index graph → v < length index.nodes → slice_get graph.incoming v ≡ Some patches → HasPatches (length patches) (how_many (is_on Incoming v) index.fields)
incoming_has index graph v patches rules graph_is low at =
    let count = ap length (same_Some patches (incoming index.fields v) (sym at ∙ graph_is.incoming_is v low)) ∙ length-patches 0 (leads_to v) index.fields in
    record { count_is = count; few = omega (arith, count, how_many-le (is_on Incoming v) index.fields, few_patches index rules) }

pub outgoing_has : (index : IndexLists) (graph : GraphSeen) (v : ℕ) (patches : List ℕ) → IsIndex index → IsGraphOf index graph → v < length index.nodes → slice_get graph.outgoing v ≡ Some patches → HasPatches (length patches) (how_many (is_on Outgoing v) index.fields)
outgoing_has index graph v patches rules graph_is low at =
    let count = ap length (same_Some patches (outgoing index.fields v) (sym at ∙ graph_is.outgoing_is v low)) ∙ length-patches 0 (leads_from v) index.fields in
    record { count_is = count; few = omega (arith, count, how_many-le (is_on Outgoing v) index.fields, few_patches index rules) }

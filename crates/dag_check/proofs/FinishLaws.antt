-- What the graph and the nets say together, once all bodies were added.
use Rattle.std.specs.Prelude.{Ok, Err, ◌≡◌, ℕ, ◌<◌, Bool, true, false, List, length, drop, Option, Some, None, if◌then◌else◌}
use Rattle.std.specs.Map.{keys_of}
use Rattle.std.proofs.Common.{sym, ap, ◌∙◌, subst, arith}
use Rattle.std.proofs.lemmas.List.{take_all, drop_all}
use Rattle.std.proofs.lemmas.Map.Entries.{length-keys_of}
use Rattle.std.proofs.lemmas.Option.{slice_get_within}
use Rattle.grid_vertex.specs.declared.triangles.Triangle.{Triangle}
use Rattle.file_model.specs.declared.fields.PatchField.{PatchField}
use Rattle.file_model.specs.Lists.{BodyLists, IndexLists, FileLists}
use Rattle.mesh_model.specs.declared.refusals.DagFault.{DagFault}
use Rattle.mesh_model.specs.declared.refusals.DagFault.TheVariants.{NoRoot, TwoRoots, Cycle, ErrorNotNested, BallNotNested, Border}
use Rattle.mesh_model.specs.Graph.{leads_from}
use Rattle.mesh_model.specs.Frames.{triangles_where}
use Rattle.mesh_model.specs.Nets.{AreOpen, HasOpenPairs}
use Rattle.mesh_model.specs.Accepted.{IsAccepted, IsNestedGraph, IsGraphFault, IsMeshFault, is_inner, triangles_out_of}
use Rattle.mesh_graph.specs.Graphs.{IsVerdict}
use Rattle.mesh_graph.specs.ListReads.{slice_get-there}
use Rattle.edge_chain.specs.Chains.{IsNetOf}
use Rattle.dag_check.specs.declared.node_sums.NodeSums.{NodeSums}
use Rattle.dag_check.specs.declared.borders.BorderDifference.{BorderDifference}
use Rattle.mesh_model.specs.declared.sides.NodeSide.TheVariants.{Incoming, Outgoing}
use Rattle.dag_check.specs.Added.{first_triangles, file_with}
use Rattle.dag_check.specs.Borders.{border_of, IsLeastBorder, HasBorderDifference}
use Rattle.mesh_model.specs.Sides.{is_on}
use Rattle.dag_check.specs.NodeSums.{how_many, taken_both, to_come}
use Rattle.dag_check.specs.AllNodeSums.{AllSumsSeen, AreAllSums, IsCompared}
use Rattle.dag_check.specs.Checkers.{CheckerSeen, IsChecker, Follows}
use Rattle.dag_check.proofs.AddedLaws.{along}

-- a fault of the graph is the mesh's
pub graph_fault : (file : FileLists) (fault : DagFault) → IsGraphFault file.index fault → IsMeshFault file fault
graph_fault file NoRoot h = h
graph_fault file (TwoRoots a b) h = h
graph_fault file (Cycle v) h = h
graph_fault file (ErrorNotNested p) h = h
graph_fault file (BallNotNested p) h = h
graph_fault file (Border v a b net_in net_out) h = absurd h

-- the verdict of the graph
pub verdict_err : (checker : CheckerSeen) (fault : DagFault) (bodies : List BodyLists) → IsChecker checker → checker.graph.verdict ≡ Err fault → IsMeshFault (file_with checker.index bodies) fault
verdict_err checker fault bodies is e = graph_fault (file_with checker.index bodies) fault (subst (IsVerdict checker.index) e is.graph.verdict_is)

pub verdict_ok : (checker : CheckerSeen) (root : ℕ) → IsChecker checker → checker.graph.verdict ≡ Ok root → IsNestedGraph checker.index root
verdict_ok checker root is e = subst (IsVerdict checker.index) e is.graph.verdict_is

none_past : (test : PatchField → Bool) (n : ℕ) (fields : List PatchField) → n ≡ length fields → how_many test (drop n fields) ≡ 0
unfolding how_many
none_past test n fields e = ap (λ (fs : List PatchField). how_many test fs) (drop_all n fields (omega arith))

nothing_left : (inner : Bool) (left patches : ℕ) → left ≡ (if inner then patches else 0) → patches ≡ 0 → left ≡ 0
nothing_left true left patches e d = e ∙ d
nothing_left false left patches e d = e

-- once all bodies were added, each node was compared
all_compared : (index : IndexLists) (n : ℕ) (all_sums : AllSumsSeen) → n ≡ length index.fields → AreAllSums index (taken_both n) all_sums → (v : ℕ) → v < length index.nodes → IsCompared all_sums.node_sums v
all_compared index n all_sums e is v low =
    let there = slice_get-there all_sums.node_sums v (omega (arith, is.as_many)) in
    record {
      sums_at = there.0;
      there = there.1;
      done = nothing_left (is_inner index.fields v) there.0.left (to_come index.fields (taken_both n) v) (is.are_node_sums v there.0 there.1).left
          (omega (arith, none_past (is_on Incoming v) n index.fields e, none_past (is_on Outgoing v) n index.fields e));
    }

-- the graph has a root, and all bodies were added
pub record Decided (checker : CheckerSeen) (root : ℕ) : Type 0 where
  pub is_checker : IsChecker checker
  pub verdict : checker.graph.verdict ≡ Ok root
  pub all : checker.next ≡ length checker.index.fields

compared_within : (node_sums : List NodeSums) (v : ℕ) → IsCompared node_sums v → v < length node_sums
compared_within node_sums v h = slice_get_within node_sums v h.sums_at h.there

-- the least border difference is the mesh's fault
border_fault : (checker : CheckerSeen) (root : ℕ) (bodies : List BodyLists) (border_found : BorderDifference) → Decided checker root → IsLeastBorder (file_with checker.index bodies) (IsCompared checker.all_sums.node_sums) border_found → IsMeshFault (file_with checker.index bodies) (Border border_found.node border_found.difference.a border_found.difference.b border_found.difference.here border_found.difference.there)
border_fault checker root bodies border_found decided h =
    let node_within : border_found.node < length checker.index.nodes = omega (arith, compared_within checker.all_sums.node_sums border_found.node h.compared, decided.is_checker.all_sums.as_many) in (
      root,
      verdict_ok checker root decided.is_checker decided.verdict,
      record {
        node = node_within;
        inner = h.inner;
        earlier = λ u low. h.least u low (all_compared checker.index checker.next checker.all_sums decided.all decided.is_checker.all_sums u (omega arith));
        differs = record { forward = h.differs.forward; differs = λ same. h.differs.differs (sym h.differs.here_is ∙ same ∙ h.differs.there_is); least = h.differs.least };
      },
      h.differs.here_is,
      h.differs.there_is,
    )

border_err : (checker : CheckerSeen) (root : ℕ) (bodies : List BodyLists) (fault : DagFault) (found : Option BorderDifference) → Decided checker root → border_of found ≡ Err fault → HasBorderDifference (file_with checker.index bodies) (IsCompared checker.all_sums.node_sums) found → IsMeshFault (file_with checker.index bodies) fault
border_err checker root bodies fault None decided e h = absurd cc
border_err checker root bodies fault (Some border_found) decided e h =
    let same : Border border_found.node border_found.difference.a border_found.difference.b border_found.difference.here border_found.difference.there ≡ fault = cc in
    subst (IsMeshFault (file_with checker.index bodies)) same (border_fault checker root bodies border_found decided h)

border_ok : (checker : CheckerSeen) (root : ℕ) (bodies : List BodyLists) (found : Option BorderDifference) → Decided checker root → border_of found ≡ Ok tt → HasBorderDifference (file_with checker.index bodies) (IsCompared checker.all_sums.node_sums) found → IsAccepted (file_with checker.index bodies) root
border_ok checker root bodies None decided e h = record {
  graph = verdict_ok checker root decided.is_checker decided.verdict;
  nets = λ v low. h v (all_compared checker.index checker.next checker.all_sums decided.all decided.is_checker.all_sums v low);
}
border_ok checker root bodies (Some border_found) decided e h = absurd cc

pub finish_err : (checker : CheckerSeen) (root : ℕ) (fault : DagFault) (bodies : List BodyLists) → Decided checker root → border_of checker.all_sums.border_found ≡ Err fault → Follows checker bodies → IsMeshFault (file_with checker.index bodies) fault
finish_err checker root fault bodies decided e h = border_err checker root bodies fault checker.all_sums.border_found decided e h.all_sums.border_found

pub finish_ok : (checker : CheckerSeen) (root : ℕ) (bodies : List BodyLists) → Decided checker root → border_of checker.all_sums.border_found ≡ Ok tt → Follows checker bodies → IsAccepted (file_with checker.index bodies) root
finish_ok checker root bodies decided e h = border_ok checker root bodies checker.all_sums.border_found decided e h.all_sums.border_found

-- the first patches are all where as many were added
all_triangles : (n : ℕ) (test : PatchField → Bool) (fields : List PatchField) (bodies : List BodyLists) → n ≡ length fields → first_triangles n test fields bodies ≡ triangles_where test fields bodies
all_triangles n test fields bodies e = ap (λ (fs : List PatchField). triangles_where test fs bodies) (take_all n fields (omega arith))

-- the open pairs of the base
pub base_pairs : (checker : CheckerSeen) (root base_open : ℕ) (bodies : List BodyLists) → Decided checker root → base_open ≡ length checker.base.entries → ((ts : List Triangle) → IsNetOf ts checker.base → AreOpen ts (keys_of checker.base.entries)) → Follows checker bodies → HasOpenPairs (triangles_out_of (file_with checker.index bodies) root) base_open
base_pairs checker root base_open bodies decided number opens h = record {
  pairs = keys_of checker.base.entries;
  are_open = opens _ (along (all_triangles checker.next (leads_from root) checker.index.fields bodies decided.all) (h.base root decided.verdict));
  number = length-keys_of checker.base.entries ∙ sym number;
}

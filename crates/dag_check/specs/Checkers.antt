-- What a checker keeps of an index and of the bodies added.
use Rattle.std.specs.Prelude.{◌≡◌, ℕ, ◌*◌, ◌≤◌, List, length, Ok}
use Rattle.file_model.specs.Lists.{BodyLists, IndexLists}
use Rattle.file_model.specs.Rules.{IsIndex}
use Rattle.mesh_model.specs.Graph.{leads_from}
use Rattle.edge_chain.specs.Chains.{Chain, IsNetOf}
use Rattle.mesh_graph.specs.Graphs.{GraphSeen, IsGraphOf}
use Rattle.dag_check.specs.Added.{first_triangles}
use Rattle.dag_check.specs.NodeSums.{taken_both}
use Rattle.dag_check.specs.AllNodeSums.{AllSumsSeen, AreAllSums, AllSumsFollow}

-- the index with its graph, the number of bodies added, the sum of the base, and what is kept of the nodes
pub record CheckerSeen : Type 0 where
  pub index : IndexLists
  pub graph : GraphSeen
  pub next : ℕ
  pub base : Chain
  pub all_sums : AllSumsSeen

-- what holds of every checker
pub record IsChecker (checker : CheckerSeen) : Type 0 where
  pub rules : IsIndex checker.index
  pub graph : IsGraphOf checker.index checker.graph
  pub within : checker.next ≤ length checker.index.fields
  pub few : checker.base.count ≤ 65535 * checker.next
  pub all_sums : AreAllSums checker.index (taken_both checker.next) checker.all_sums

-- what the checker keeps is that of the first of these bodies, as many as were added
pub record Follows (checker : CheckerSeen) (bodies : List BodyLists) : Type 0 where
  pub base : (root : ℕ) → checker.graph.verdict ≡ Ok root → IsNetOf (first_triangles checker.next (leads_from root) checker.index.fields bodies) checker.base
  pub all_sums : AllSumsFollow checker.index (taken_both checker.next) bodies checker.all_sums

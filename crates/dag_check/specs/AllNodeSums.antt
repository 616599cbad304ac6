-- What is kept of all nodes, and what it comes to.
use Rattle.std.specs.Prelude.{◌≡◌, ℕ, ◌≤◌, ◌<◌, List, length, slice_get, slice_set, Option, Some, None}
use Rattle.std.specs.List.{sum_by}
use Rattle.file_model.specs.declared.fields.PatchField.{PatchField}
use Rattle.file_model.specs.Lists.{BodyLists, IndexLists}
use Rattle.mesh_model.specs.Nets.{one_if}
use Rattle.edge_chain.specs.declared.differences.Difference.{Difference}
use Rattle.mesh_model.specs.declared.sides.NodeSide.{NodeSide}
use Rattle.dag_check.specs.declared.node_sums.NodeSums.{NodeSums}
use Rattle.dag_check.specs.declared.borders.BorderDifference.{BorderDifference}
use Rattle.dag_check.specs.declared.all_node_sums.AllNodeSums.{AllNodeSums}
use Rattle.dag_check.specs.Added.{file_with}
use Rattle.dag_check.specs.Borders.{lesser_border, HasBorderDifference}
use Rattle.dag_check.specs.NodeSums.{Taken, empty_node_sums, inner_patches, is_under_way, pairs_of, chain_on, Takes, IsSum, AreNodeSums, NodeSumsFollow}

-- what is kept of each node, the count of open nodes, and the least border difference
pub record AllSumsSeen : Type 0 where
  pub node_sums : List NodeSums
  pub open_nodes : ℕ
  pub border_found : Option BorderDifference

abbrev pub all_sums_of : AllNodeSums → AllSumsSeen
all_sums_of all_sums = record { node_sums = all_sums.node_sums.items; open_nodes = all_sums.open_nodes; border_found = all_sums.border_found }

-- no body was added to any node's sums
abbrev pub AreNew : List PatchField → List NodeSums → Type 0
AreNew fields node_sums = (v : ℕ) (t : NodeSums) → slice_get node_sums v ≡ Some t → t ≡ empty_node_sums (inner_patches fields v)

-- nothing was added
pub record IsNew (index : IndexLists) (all_sums : AllSumsSeen) : Type 0 where
  pub as_many : length all_sums.node_sums ≡ length index.nodes
  pub new_node_sums : AreNew index.fields all_sums.node_sums
  pub open_nodes : all_sums.open_nodes ≡ 0
  pub border_found : all_sums.border_found ≡ None

-- how many nodes are under way
abbrev pub under_way : List NodeSums → ℕ
under_way node_sums = sum_by (λ t. one_if (is_under_way t)) node_sums

-- how many pairs the sums keep
abbrev pub pairs_in_all : List NodeSums → ℕ
pairs_in_all node_sums = sum_by pairs_of node_sums

-- the count is that of the nodes' sums, and no sum is too large to count
pub record IsSummed (all_sums : AllSumsSeen) : Type 0 where
  pub few_nodes : length all_sums.node_sums ≤ 65536
  pub sums : (v : ℕ) (t : NodeSums) → slice_get all_sums.node_sums v ≡ Some t → (side : NodeSide) → IsSum 65536 (chain_on side t)
  pub open_nodes : all_sums.open_nodes ≡ under_way all_sums.node_sums

-- a body of the node is still to come if it is inner
abbrev pub IsReady : ℕ → List NodeSums → Type 0
IsReady node node_sums = (t : NodeSums) → slice_get node_sums node ≡ Some t → 0 < t.total → 0 < t.left

-- a body is taken on one side of a node
pub record TakesAt (side : NodeSide) (node : ℕ) (body : BodyLists) (before after : AllSumsSeen) : Type 0 where
  pub old_sums : NodeSums
  pub empty_node_sums : NodeSums
  pub difference : Option Difference
  pub there : slice_get before.node_sums node ≡ Some old_sums
  pub takes : Takes side body old_sums empty_node_sums difference
  pub node_sums : after.node_sums ≡ slice_set before.node_sums node empty_node_sums
  pub open_nodes : after.open_nodes ≡ under_way after.node_sums
  pub border_found : after.border_found ≡ lesser_border before.border_found node difference

-- what is kept of an index's nodes, once so many bodies were added
pub record AreAllSums (index : IndexLists) (taken : Taken) (all_sums : AllSumsSeen) : Type 0 where
  pub as_many : length all_sums.node_sums ≡ length index.nodes
  pub are_node_sums : (v : ℕ) (t : NodeSums) → slice_get all_sums.node_sums v ≡ Some t → AreNodeSums index.fields taken v t
  pub open_nodes : all_sums.open_nodes ≡ under_way all_sums.node_sums

-- no body of the node is still to come, so that its sums were compared if it is inner
pub record IsCompared (node_sums : List NodeSums) (v : ℕ) : Type 0 where
  pub sums_at : NodeSums
  pub there : slice_get node_sums v ≡ Some sums_at
  pub done : sums_at.left ≡ 0

-- what is kept is that of these bodies, of which so many were added
pub record AllSumsFollow (index : IndexLists) (taken : Taken) (bodies : List BodyLists) (all_sums : AllSumsSeen) : Type 0 where
  pub node_sums : (v : ℕ) (t : NodeSums) → slice_get all_sums.node_sums v ≡ Some t → NodeSumsFollow index.fields taken bodies v t
  pub border_found : HasBorderDifference (file_with index bodies) (IsCompared all_sums.node_sums) all_sums.border_found

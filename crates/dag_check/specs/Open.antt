-- Open nodes, and the pairs of points that are kept for them.
use Rattle.std.specs.Prelude.{◌≡◌, ℕ, ◌+◌, Bool, false, ◌&&◌, ◌||◌, List, length, take, drop, slice_get, Some, sum, IsTrue}
use Rattle.std.specs.List.{list_any}
use Rattle.file_model.specs.declared.fields.PatchField.{PatchField}
use Rattle.file_model.specs.Lists.{BodyLists, IndexLists}
use Rattle.mesh_model.specs.Graph.{leads_to, leads_from, nodes_where}
use Rattle.mesh_model.specs.Nets.{HasOpenPairs}
use Rattle.mesh_model.specs.Accepted.{is_inner}
use Rattle.dag_check.specs.Added.{first_triangles}

-- the patch leads to the node or from it
abbrev pub touches : ℕ → PatchField → Bool
touches v f = leads_to v f || leads_from v f

-- the node is inner, and of its patches some but not all are among the first n
abbrev pub is_open : List PatchField → ℕ → ℕ → Bool
is_open fields n v = is_inner fields v && list_any (touches v) (take n fields) && list_any (touches v) (drop n fields)

-- how many of the nodes are open after n bodies
abbrev pub open_nodes : List PatchField → ℕ → ℕ → ℕ
open_nodes fields n nodes = length (nodes_where nodes (is_open fields n))

-- after n bodies each open node has so many open pairs on one side, and the others 0
pub record AreKept (side : ℕ → PatchField → Bool) (index : IndexLists) (n : ℕ) (bodies : List BodyLists) (counts : List ℕ) : Type 0 where
  pub as_many : length counts ≡ length index.nodes
  pub open_ones : (v : ℕ) → IsTrue (is_open index.fields n v) → (k : ℕ) → slice_get counts v ≡ Some k → HasOpenPairs (first_triangles n (side v) index.fields bodies) k
  pub others : (v : ℕ) → is_open index.fields n v ≡ false → (k : ℕ) → slice_get counts v ≡ Some k → k ≡ 0

-- the pairs kept after n bodies are those of the open nodes' incoming and outgoing triangles
pub record KeepsPairs (index : IndexLists) (n : ℕ) (bodies : List BodyLists) (kept : ℕ) : Type 0 where
  pub incoming : List ℕ
  pub outgoing : List ℕ
  pub in_are : AreKept leads_to index n bodies incoming
  pub out_are : AreKept leads_from index n bodies outgoing
  pub total : kept ≡ sum incoming + sum outgoing

-- The order in which nodes are tried.
use Rattle.std.specs.Prelude.{ℕ, ◌==◌, Bool, ◌&&◌, ◌||◌, List, [], ◌∷◌, length, nat_lt, slice_index, if◌then◌else◌}
use Rattle.mesh_model.specs.Graph.{nodes_where}
use Rattle.mesh_model.specs.Accepted.{is_inner}
use Rattle.mesh_model.specs.Meshes.{MeshLists}

-- the mesh, each node's score, the score that a wanted node is above, and how many triangles a refined
-- frame has at most
pub record Rules : Type 0 where
  pub mesh : MeshLists
  pub scores : List ℕ
  pub threshold : ℕ
  pub limit : ℕ

abbrev pub score : Rules → ℕ → ℕ
score rules v = slice_index rules.scores v

abbrev pub level : Rules → ℕ → ℕ
level rules v = slice_index rules.mesh.levels v

-- u is tried before v: by the greater score, then the lesser level, then the lesser number
abbrev pub comes_before : Rules → ℕ → ℕ → Bool
comes_before rules u v =
    nat_lt (score rules v) (score rules u) || ((score rules u == score rules v) && (nat_lt (level rules u) (level rules v) || ((level rules u == level rules v) && nat_lt u v)))

-- the list with v before the first that v comes before
unfoldable pub with_node : Rules → ℕ → List ℕ → List ℕ
with_node rules v [] = v ∷ []
with_node rules v (u ∷ us) = if comes_before rules v u then v ∷ u ∷ us else u ∷ with_node rules v us

-- the nodes in the order in which they are tried
unfoldable pub sorted_nodes : Rules → List ℕ → List ℕ
sorted_nodes rules [] = []
sorted_nodes rules (v ∷ vs) = with_node rules v (sorted_nodes rules vs)

-- all nodes but the root and the sinks, in the order in which they are tried
unfoldable pub node_order : Rules → List ℕ
node_order rules = sorted_nodes rules (nodes_where (length rules.mesh.index.nodes) (is_inner rules.mesh.index.fields))

-- Borders: the directed edges that triangles leave where those that cancel are dropped.
use Rattle.std.specs.Prelude.{◌≡◌, ℕ, ◌+◌, List, ℤ, pos, ◌+ℤ◌, ◌-ℤ◌, IsTrue}
use Rattle.std.specs.List.{sum_by}
use Rattle.grid_vertex.specs.declared.points.Point.{Point}
use Rattle.grid_vertex.specs.declared.triangles.Triangle.{Triangle}
use Rattle.mesh_model.specs.Nets.{net, one_if, is_edge, Pair, is_forward}
use Rattle.edge_chain.specs.Chains.{Chain, kept_net, AreEntries}
use Rattle.edge_chain.specs.declared.edges.BorderEdge.{BorderEdge}

-- how often the edge from a to b stands among the edges
unfoldable pub edges_times : List BorderEdge → Point → Point → ℕ
edges_times edges a b = sum_by (λ e. one_if (is_edge a b e.from e.to)) edges

-- how often the edge stands among the edges, less how often it stands there the other way round
unfoldable pub edges_net : List BorderEdge → Point → Point → ℤ
edges_net edges a b = pos (edges_times edges a b) -ℤ pos (edges_times edges b a)

-- the edges have the triangles' net at every two points
abbrev pub AreBorder : List BorderEdge → List Triangle → Type 0
AreBorder edges triangles = (a b : Point) → edges_net edges a b ≡ net triangles a b

-- so many triangles more, with these edges: each pair grows by the edges' net
pub record AddsEdges (edges : List BorderEdge) (triangles : ℕ) (before after : Chain) : Type 0 where
  pub count : after.count ≡ before.count + triangles
  pub nets : (p : Pair) → IsTrue (is_forward p) → kept_net after.entries p ≡ kept_net before.entries p +ℤ edges_net edges p.a p.b
  pub entries : AreEntries after.entries

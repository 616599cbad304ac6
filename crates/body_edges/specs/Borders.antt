-- The border of a body.
use Rattle.std.specs.Prelude.{◌≡◌, ℕ, ◌*◌, ◌<◌, ◌≤◌, List, length, map, All}
use Rattle.std.specs.List.{Contains}
use Rattle.grid_vertex.specs.declared.points.Point.{Point}
use Rattle.file_model.specs.Lists.{BodyLists, point_at_place, triangles_of}
use Rattle.edge_chain.specs.declared.edges.BorderEdge.{BorderEdge}
use Rattle.edge_chain.specs.Borders.{AreBorder}

-- the edge between two places of a list of points
unfoldable pub edge_at : List Point → ℕ × ℕ → BorderEdge
edge_at points (from, to) = record { from = point_at_place points from; to = point_at_place points to }

-- the edges go between places of the points, and no two of them go between the same two places in opposite directions
pub record NoneCancels (edges : List BorderEdge) (points : List Point) : Type 0 where
  pub places : List (ℕ × ℕ)
  pub edges_are : edges ≡ map (edge_at points) places
  pub there : All (λ (p : ℕ × ℕ). (p.0 < length points) × (p.1 < length points)) places
  pub one_way : (from to : ℕ) → Contains places (from, to) → Contains places (to, from) → ⊥

-- the edges have the net of the body's triangles, none of them cancels another, and they are no more than the triangles have
pub record IsBorderOf (edges : List BorderEdge) (lists : BodyLists) : Type 0 where
  pub net : AreBorder edges (triangles_of lists)
  pub one_way : NoneCancels edges lists.points
  pub few : length edges ≤ 3 * length lists.corners

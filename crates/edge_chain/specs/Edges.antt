-- The edges that a chain sums, in their order, and the sides of a triangle.
use Rattle.std.specs.Prelude.{List, [], ◌∷◌, ℤ, pos, negsuc, if◌then◌else◌}
use Rattle.std.specs.declared.cmp.Ordering.{Ordering}
use Rattle.std.specs.Cmp.{IsTotalOrder, on_total}
use Rattle.std.proofs.lemmas.Map.Lookups.{CmpEqualImpliesEq}
use Rattle.grid_vertex.specs.declared.points.Point.{Point}
use Rattle.grid_vertex.specs.declared.triangles.Triangle.{Triangle}
use Rattle.mesh_model.specs.Nets.{Pair, is_before}
use Rattle.edge_chain.specs.declared.edges.Edge.{Edge}
use Rattle.edge_chain.specs.declared.edges.BorderEdge.{BorderEdge}
use Rattle.edge_chain.specs.contracts.edges.EdgeOrd.TheImpl as edge_order
use Rattle.edge_chain.specs.Orders.{pair_cmp_total, pair_cmp_exact}

-- by the first point, then the second
abbrev pub edge_cmp : Edge → Edge → Ordering
edge_cmp = (edge_order.ghosts).cmp

-- the edge's points
abbrev pub pair_of : Edge → Pair
pair_of edge = record { a = edge.a; b = edge.b }

abbrev pub edge_of : Pair → Edge
edge_of pair = record { a = pair.a; b = pair.b }

-- the edge between two points, with 1 if it goes from the lesser one to the greater, else with -1
abbrev pub side_of : Point → Point → Edge × ℤ
side_of from to = if is_before from to then (record { a = from; b = to }, pos 1) else (record { a = to; b = from }, negsuc 0)

-- the edges of a triangle, from corner to corner in order
abbrev pub sides_of : Triangle → List BorderEdge
sides_of t = record { from = t.a; to = t.b } ∷ record { from = t.b; to = t.c } ∷ record { from = t.c; to = t.a } ∷ []

pub edge_cmp_total : IsTotalOrder edge_cmp
edge_cmp_total = on_total pair_of pair_cmp_total

pub edge_cmp_exact : CmpEqualImpliesEq edge_cmp
edge_cmp_exact p q e =
    let same = pair_cmp_exact (pair_of p) (pair_of q) e in
    λ i. edge_of (same i)

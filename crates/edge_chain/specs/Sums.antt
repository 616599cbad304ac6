-- The sums of a chain.
use Rattle.std.specs.Prelude.{◌≡◌, ℕ, ◌*◌, ◌^◌, ◌≤◌, Bool, true, false, cond, List, [], ◌∷◌, map, ℤ, pos}
use Rattle.std.specs.List.{flat_map}
use Rattle.grid_vertex.specs.Points.{is_same_point}
use Rattle.mesh_model.specs.Nets.{Pair, is_forward}
use Rattle.edge_chain.specs.declared.edges.Edge.{Edge}
use Rattle.edge_chain.specs.declared.edges.BorderEdge.{BorderEdge}
use Rattle.edge_chain.specs.Chains.{Chain}
use Rattle.edge_chain.specs.Edges.{edge_cmp, pair_of, side_of}
use Rattle.edge_chain.specs.Gaps.{IsTight}
use Rattle.edge_chain.specs.Totals.{total, weight, normal}

-- what an edge adds; one from a point to itself adds nothing
abbrev pub sums_of_edge : BorderEdge → List (Edge × ℤ)
sums_of_edge e = cond (is_same_point e.from e.to) [] (side_of e.from e.to ∷ [])

abbrev pub sums_of : List BorderEdge → List (Edge × ℤ)
sums_of edges = flat_map sums_of_edge edges

-- the sums of a chain of so many triangles; only edges whose lesser point comes first have a total
pub record AreSums (sums : List (Edge × ℤ)) (gathered : Bool) (triangles : ℕ) : Type 0 where
  pub forward : (q : Edge) → is_forward (pair_of q) ≡ false → total edge_cmp sums q ≡ pos 0
  pub small : weight sums ≤ 3 * triangles
  pub few : triangles ≤ 2 ^ 60
  pub tight : gathered ≡ true → IsTight edge_cmp sums

abbrev pub seen : Edge × ℤ → Pair × ℤ
seen e = (pair_of e.0, e.1)

-- the totals that aren't 0, as the entries of a chain
abbrev pub entries_of : List (Edge × ℤ) → List (Pair × ℤ)
entries_of sums = map seen (normal edge_cmp sums)

abbrev pub chain_of : List (Edge × ℤ) → ℕ → Chain
chain_of sums triangles = record { entries = entries_of sums; count = triangles }

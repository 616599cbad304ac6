-- Nets: how often an edge stands in triangles, less how often it stands there the other way round.
use Rattle.std.specs.Prelude.{◌≡◌, ◌≢◌, ◌↔◌, ℕ, ◌+◌, Bool, ◌&&◌, ◌||◌, List, [], ◌∷◌, length, ℤ, pos, ◌-ℤ◌, int_lt, IsTrue, if◌then◌else◌}
use Rattle.std.specs.List.{sum_by, Contains}
use Rattle.std.specs.Ordering.{int_eq}
use Rattle.grid_vertex.specs.declared.points.Point.{Point}
use Rattle.grid_vertex.specs.declared.triangles.Triangle.{Triangle}
use Rattle.grid_vertex.specs.Points.{is_same_point}

-- 1 where the test passes
abbrev pub one_if : Bool → ℕ
one_if test = if test then 1 else 0

-- the edge from p to q is the edge from a to b
abbrev pub is_edge : Point → Point → Point → Point → Bool
is_edge a b p q = is_same_point p a && is_same_point q b

-- how often the edge from a to b stands in a triangle, whose edges go from corner to corner in order
unfoldable pub edge_times : Point → Point → Triangle → ℕ
edge_times a b t = one_if (is_edge a b t.a t.b) + one_if (is_edge a b t.b t.c) + one_if (is_edge a b t.c t.a)

-- how often the edge from a to b stands in the triangles
unfoldable pub times : List Triangle → Point → Point → ℕ
times triangles a b = sum_by (edge_times a b) triangles

-- how often the edge stands in the triangles, less how often it stands there the other way round
unfoldable pub net : List Triangle → Point → Point → ℤ
net triangles a b = pos (times triangles a b) -ℤ pos (times triangles b a)

-- p comes before q: by x, then y, then z
abbrev pub is_before : Point → Point → Bool
is_before p q = int_lt p.x q.x || (int_eq p.x q.x && (int_lt p.y q.y || (int_eq p.y q.y && int_lt p.z q.z)))

-- two points, the lesser one first
pub record Pair : Type 0 where
  pub a : Point
  pub b : Point

abbrev pub is_forward : Pair → Bool
is_forward pair = is_before pair.a pair.b

-- by the first point, then the second
abbrev pub is_pair_before : Pair → Pair → Bool
is_pair_before p q = is_before p.a q.a || (is_same_point p.a q.a && is_before p.b q.b)

-- each pair comes before all that follow it
abbrev pub Ascend : List Pair → Type 0
Ascend [] = Unit {0}
Ascend (p ∷ ps) = ((q : Pair) → Contains ps q → IsTrue (is_pair_before p q)) × Ascend ps

-- the list has each pair of points, the lesser one first, whose net isn't 0, and has it once
pub record AreOpen (triangles : List Triangle) (pairs : List Pair) : Type 0 where
  pub ascending : Ascend pairs
  pub forward : (p : Pair) → Contains pairs p → IsTrue (is_forward p)
  pub open_edges : (p : Pair) → IsTrue (is_forward p) → Contains pairs p ↔ (net triangles p.a p.b ≢ pos 0)

-- so many pairs are open in the triangles
pub record HasOpenPairs (triangles : List Triangle) (count : ℕ) : Type 0 where
  pub pairs : List Pair
  pub are_open : AreOpen triangles pairs
  pub number : length pairs ≡ count

-- the net is one and the same at every pair of points
abbrev pub HaveOneNet : List Triangle → List Triangle → Type 0
HaveOneNet first second = (a b : Point) → net first a b ≡ net second a b

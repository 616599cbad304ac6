-- Two ways to fill a square, and two ways to fill what lies round an edge, have one net.
use Rattle.std.proofs.Common.{◌≡◌, ℕ, ◌+◌, Bool, true, false, ◌&&◌, List, [], ◌∷◌, refl, arith}
use Rattle.std.proofs.lemmas.Int.{ints}
use Rattle.std.proofs.lemmas.List.Sums.{sum_by-cons}
use Rattle.grid_vertex.specs.declared.points.Point.{Point}
use Rattle.grid_vertex.specs.declared.triangles.Triangle.{Triangle}
use Rattle.grid_vertex.specs.Points.{is_same_point}
use Rattle.mesh_model.specs.Nets.{one_if, is_edge, edge_times, times, net}

abbrev pub tri : Point → Point → Point → Triangle
tri p q r = record { a = p; b = q; c = r }

-- 1 where the edge from p to q is the edge from a to b
unfoldable pub seen : Point → Point → Point → Point → ℕ
seen a b p q = one_if (is_edge a b p q)

and_turned : (x y : Bool) → one_if (x && y) ≡ one_if (y && x)
and_turned true true = refl
and_turned true false = refl
and_turned false true = refl
and_turned false false = refl

pub turned : (a b p q : Point) → seen b a p q ≡ seen a b q p
unfolding seen
turned a b p q = and_turned (is_same_point p b) (is_same_point q a)

pub times_none : (a b : Point) → times [] a b ≡ 0
unfolding times
times_none a b = refl

pub times_of : (p q r : Point) (ts : List Triangle) (a b : Point) → times (tri p q r ∷ ts) a b ≡ seen a b p q + seen a b q r + seen a b r p + times ts a b
unfolding times edge_times seen
times_of p q r ts a b = sum_by-cons (edge_times a b) (tri p q r) ts

-- the triangles from the bottom, right, top and left of a square to its middle fill it too
pub square_net : (p q r s m a b : Point) → net (tri p q r ∷ tri p r s ∷ []) a b ≡ net (tri s p m ∷ tri p q m ∷ tri q r m ∷ tri r s m ∷ []) a b
unfolding net
square_net p q r s m a b =
    simp (times_of, times_none)
    (omega (arith, ints, turned a b p q, turned a b q r, turned a b r p, turned a b p r, turned a b r s, turned a b s p, turned a b p m, turned a b m p, turned a b q m, turned a b m q, turned a b r m, turned a b m r, turned a b s m, turned a b m s))

-- what lies round an edge from e to f: the four triangles on it and beside it, and six by its middle n
pub edge_net : (e f g m j k n a b : Point)
    → net (tri e f m ∷ tri f g m ∷ tri f e k ∷ tri e j k ∷ []) a b
    ≡ net (tri e n m ∷ tri n f m ∷ tri f g m ∷ tri f n k ∷ tri n e k ∷ tri e j k ∷ []) a b
unfolding net
edge_net e f g m j k n a b =
    simp (times_of, times_none)
    (omega (arith, ints, turned a b e f, turned a b f e, turned a b f m, turned a b m f, turned a b m e, turned a b e m, turned a b f g, turned a b g m, turned a b e k, turned a b k e, turned a b k f, turned a b f k, turned a b e j, turned a b j k, turned a b e n, turned a b n e, turned a b n m, turned a b m n, turned a b n f, turned a b f n, turned a b n k, turned a b k n))

-- How far apart points near the grid can be.
use Rattle.std.proofs.Common.{◌≡◌, ◌+◌, ◌≤◌, Bool, true, false, ◌&&◌, ℤ, pos, negsuc, arith, refl}
use Rattle.std.specs.Prelude.{unsigned_abs}
use Rattle.std.proofs.lemmas.Int.{ints}
use Rattle.std.proofs.lemmas.Bool.{leb-true}
use Rattle.grid_vertex.specs.declared.points.Point.{Point}
use Rattle.grid_vertex.specs.Points.{is_within, IsNearGrid, gap}

gap_le : (a b : ℤ) → gap a b ≤ unsigned_abs a + unsigned_abs b
gap_le (pos x) (pos y) = omega (arith, ints)
gap_le (pos x) (negsuc y) = omega (arith, ints)
gap_le (negsuc x) (pos y) = omega (arith, ints)
gap_le (negsuc x) (negsuc y) = omega (arith, ints)

both_true : (a b : Bool) → (a && b) ≡ true → (a ≡ true) × (b ≡ true)
both_true true true e = (refl, refl)
both_true true false e = absurd cc
both_true false true e = absurd cc
both_true false false e = absurd cc

-- the last axis of two points near the grid
pub gap_bound : (p q : Point) → IsNearGrid p → IsNearGrid q → gap p.z q.z ≤ 4194304
gap_bound p q near_p near_q =
    let a = both_true (is_within 2097152 p.x && is_within 2097152 p.y) (is_within 2097152 p.z) near_p in
    let b = both_true (is_within 2097152 q.x && is_within 2097152 q.y) (is_within 2097152 q.z) near_q in
    omega (arith, gap_le p.z q.z, leb-true _ _ a.1, leb-true _ _ b.1)

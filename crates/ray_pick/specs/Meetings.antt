-- The numbers of a hit, by determinants: with u and v the ways from corner a to b and c, q the one to the origin
-- and d the direction, w1 is |q v d|, w2 is |u q d|, above is |v u q| and below |u v d|, each with the sign that
-- makes below positive.
use Rattle.std.specs.Prelude.{ℕ, ◌+◌, Bool, not, ◌&&◌, ℤ, pos, negsuc, ◌+ℤ◌, ◌*ℤ◌, unsigned_abs, int_lt}
use Rattle.std.specs.Ordering.{int_eq}
use Rattle.ray_pick.specs.declared.vectors.Vector.{Vector}
use Rattle.ray_pick.specs.Rays.{determinant}

abbrev pub sign_of : ℤ → ℤ
sign_of (pos n) = pos 1
sign_of (negsuc n) = negsuc 0

-- z with the sign of another number
unfoldable pub signed : ℤ → ℤ → ℤ
signed g z = sign_of g *ℤ z

abbrev pub above_of : Vector → Vector → Vector → Vector → ℤ
above_of u v q d = signed (determinant u v d) (determinant v u q)

abbrev pub below_of : Vector → Vector → Vector → ℤ
below_of u v d = signed (determinant u v d) (determinant u v d)

-- no weight is below 0
abbrev pub is_inside : (w1 w2 below : ℤ) → Bool
is_inside w1 w2 below = not (int_lt w1 (pos 0)) && not (int_lt w2 (pos 0)) && not (int_lt below (w1 +ℤ w2))

-- the plane is crossed, and not behind the origin
abbrev pub is_ahead : (gain above : ℤ) → Bool
is_ahead gain above = not (int_eq gain (pos 0)) && not (int_lt above (pos 0))

-- the triangle is hit where its plane is crossed, within the triangle
abbrev pub is_hit : (gain w1 w2 above below : ℤ) → Bool
is_hit gain w1 w2 above below = is_ahead gain above && is_inside w1 w2 below

abbrev pub is_met : Vector → Vector → Vector → Vector → Bool
is_met u v q d =
    let g = determinant u v d in
    is_hit g (signed g (determinant q v d)) (signed g (determinant u q d)) (above_of u v q d) (below_of u v d)

-- the sum of the sizes of the coordinates
abbrev pub size_of : Vector → ℕ
size_of v = unsigned_abs v.x + unsigned_abs v.y + unsigned_abs v.z

-- Half-spaces, and on which side of one a ball lies.
use Rattle.std.specs.Prelude.{ℕ, ◌+◌, ◌*◌, Bool, not, ◌&&◌, ℤ, pos, ◌+ℤ◌, ◌-ℤ◌, ◌*ℤ◌, int_lt, nat_lt, nat_le, unsigned_abs, Option, Some, None, if◌then◌else◌}
use Rattle.grid_vertex.specs.declared.points.Point.{Point}
use Rattle.grid_vertex.specs.declared.balls.Ball.{Ball}
use Rattle.grid_vertex.specs.Points.{is_within, is_point_within, square}
use Rattle.view_planes.specs.declared.half_spaces.Side.{Side}
use Rattle.view_planes.specs.declared.half_spaces.Side.TheVariants.{Front, Across, Behind}
use Rattle.view_planes.specs.declared.half_spaces.TheConstants.{NORMAL_REACH, LEVEL_REACH}

-- the points p with normal * p at least `level`
pub record HalfSpaceSeen : Type 0 where
  pub normal : Point
  pub level : ℤ

-- |normal|^2
abbrev pub normal_squared : Point → ℕ
normal_squared n = square (unsigned_abs n.x) + square (unsigned_abs n.y) + square (unsigned_abs n.z)

-- the numbers are in their ranges, and the normal isn't 0
abbrev pub is_half_space : Point → ℤ → Bool
is_half_space normal level = is_point_within NORMAL_REACH normal && is_within LEVEL_REACH level && nat_lt 0 (normal_squared normal)

-- the half-space of numbers in their ranges, and none of others
abbrev pub half_space_of : Point → ℤ → Option HalfSpaceSeen
half_space_of normal level = if is_half_space normal level then Some (record { normal = normal; level = level }) else None

-- p * q
abbrev pub dot : Point → Point → ℤ
dot p q = p.x *ℤ q.x +ℤ p.y *ℤ q.y +ℤ p.z *ℤ q.z

-- how far in front of the plane the point is, in units of 1 / |normal|
unfoldable pub offset_of : HalfSpaceSeen → Point → ℤ
offset_of plane p = dot plane.normal p -ℤ plane.level

-- (radius |normal|)^2
unfoldable pub reach_squared : HalfSpaceSeen → ℕ → ℕ
reach_squared plane radius = square radius * normal_squared plane.normal

-- the centre is outside, by more than the reach
abbrev pub is_below : ℤ → ℕ → Bool
is_below offset reach = int_lt offset (pos 0) && nat_lt reach (square (unsigned_abs offset))

-- the centre is inside, by no less than the reach
abbrev pub is_above : ℤ → ℕ → Bool
is_above offset reach = not (int_lt offset (pos 0)) && nat_le reach (square (unsigned_abs offset))

-- the whole ball is outside the half-space
unfoldable pub is_behind : HalfSpaceSeen → Ball → Bool
is_behind plane ball = is_below (offset_of plane ball.centre) (reach_squared plane ball.radius)

abbrev pub side_at : ℤ → ℕ → Side
side_at offset reach = if is_below offset reach then Behind else if is_above offset reach then Front else Across

-- on which side the ball lies
abbrev pub side_of : HalfSpaceSeen → Ball → Side
side_of plane ball = side_at (offset_of plane ball.centre) (reach_squared plane ball.radius)

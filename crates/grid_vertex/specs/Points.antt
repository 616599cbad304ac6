-- Where points lie, and how far apart they are.
use Rattle.std.specs.Prelude.{ℕ, ◌+◌, ◌*◌, Bool, ◌&&◌, ℤ, ◌-ℤ◌, nat_le, unsigned_abs, IsTrue}
use Rattle.std.specs.Ordering.{int_eq}
use Rattle.grid_vertex.specs.declared.points.Point.{Point}
use Rattle.grid_vertex.specs.declared.points.measures.TheConstants.{GRID}

-- z is in -limit to limit
abbrev pub is_within : ℕ → ℤ → Bool
is_within limit z = nat_le (unsigned_abs z) limit

-- each coordinate is in -limit to limit
abbrev pub is_point_within : ℕ → Point → Bool
is_point_within limit p = is_within limit p.x && is_within limit p.y && is_within limit p.z

-- the grid of a patch file
abbrev pub is_in_grid : Point → Bool
is_in_grid p = is_point_within GRID p

-- near enough to the grid for its distances, as an eye is
abbrev pub IsNearGrid : Point → Type 0
IsNearGrid p = IsTrue (is_point_within 2097152 p)

-- the two points are one
abbrev pub is_same_point : Point → Point → Bool
is_same_point p q = int_eq p.x q.x && int_eq p.y q.y && int_eq p.z q.z

-- how far apart two coordinates are
abbrev pub gap : ℤ → ℤ → ℕ
gap a b = unsigned_abs (a -ℤ b)

abbrev pub square : ℕ → ℕ
square n = n * n

-- |p - q|^2
unfoldable pub distance_squared_of : Point → Point → ℕ
distance_squared_of p q = square (gap p.x q.x) + square (gap p.y q.y) + square (gap p.z q.z)

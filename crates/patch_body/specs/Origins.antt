-- The least coordinates of points.
use Rattle.std.specs.Int.{int_min}
use Rattle.grid_vertex.specs.declared.points.Point.{Point}

-- the lesser coordinate of two points on each axis
abbrev pub lower_of : Point → Point → Point
lower_of p q = record { x = int_min p.x q.x; y = int_min p.y q.y; z = int_min p.z q.z }

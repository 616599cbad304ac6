-- When one ball contains another.
use Rattle.std.specs.Prelude.{◌-◌, Bool, ◌&&◌, nat_le}
use Rattle.grid_vertex.specs.declared.balls.Ball.{Ball}
use Rattle.grid_vertex.specs.Points.{square, distance_squared_of}

-- the radius isn't less, and the centres are no further apart than the radii differ
unfoldable pub is_ball_within : Ball → Ball → Bool
is_ball_within outer inner = nat_le inner.radius outer.radius && nat_le (distance_squared_of outer.centre inner.centre) (square (outer.radius - inner.radius))

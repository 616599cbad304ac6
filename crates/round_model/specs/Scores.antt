-- How large a node's error appears from an eye.
use Rattle.std.specs.Prelude.{ℕ, ◌-◌, ◌*◌, ◌/◌, max}
use Rattle.grid_vertex.specs.declared.points.Point.{Point}
use Rattle.grid_vertex.specs.declared.balls.Ball.{Ball}
use Rattle.grid_vertex.specs.Points.{distance_squared_of}
use Rattle.grid_vertex.specs.Roots.{root_of}
use Rattle.file_model.specs.declared.fields.Node.{Node}

-- how far the eye is from the ball, in whole units, and at least 1
unfoldable pub distance_of : Point → Ball → ℕ
distance_of eye ball = max 1 (root_of (distance_squared_of eye ball.centre) - ball.radius)

-- the error by the focal number over the distance, rounded down
unfoldable pub score_of : Point → ℕ → Node → ℕ
score_of eye focal node = (node.error * focal) / distance_of eye node.ball

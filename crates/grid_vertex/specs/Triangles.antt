-- Triangles that have no area because two corners are one point.
use Rattle.std.specs.Prelude.{Bool, ◌||◌}
use Rattle.grid_vertex.specs.declared.triangles.Triangle.{Triangle}
use Rattle.grid_vertex.specs.Points.{is_same_point}

-- two of the corners are one point
unfoldable pub is_flat_triangle : Triangle → Bool
is_flat_triangle t = is_same_point t.a t.b || is_same_point t.b t.c || is_same_point t.c t.a

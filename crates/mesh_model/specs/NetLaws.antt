-- Laws of nets.
use Rattle.std.specs.Prelude.{◌≡◌, ◌+◌, List, ◌++◌}
use Rattle.std.proofs.lemmas.List.Sums.{sum_by-append}
use Rattle.grid_vertex.specs.declared.points.Point.{Point}
use Rattle.grid_vertex.specs.declared.triangles.Triangle.{Triangle}
use Rattle.mesh_model.specs.Nets.{edge_times, times}

-- an edge stands in two lists together as often as in both
pub times-append : (first second : List Triangle) (a b : Point) → times (first ++ second) a b ≡ times first a b + times second a b
unfolding times
times-append first second a b = sum_by-append (edge_times a b) first second

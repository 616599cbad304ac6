-- What is nested along a patch.
use Rattle.std.specs.Prelude.{◌≡◌, ℕ, Bool, List, slice_get, Some}
use Rattle.file_model.specs.declared.fields.Node.{Node}
use Rattle.grid_vertex.specs.Points.{IsNearGrid}
use Rattle.mesh_model.specs.Accepted.{has_no_more_error, has_ball_within}
use Rattle.mesh_graph.specs.declared.nesting.Nesting.{Nesting}
use Rattle.mesh_graph.specs.declared.nesting.Nesting.TheVariants.{Errors, Balls}

-- the test of the nodes of a patch's tail and head
abbrev pub rule_of : Nesting → Node → Node → Bool
rule_of Errors = has_no_more_error
rule_of Balls = has_ball_within

-- distances between the balls' centres fit
abbrev pub AreNearGrid : List Node → Type 0
AreNearGrid nodes = (v : ℕ) (n : Node) → slice_get nodes v ≡ Some n → IsNearGrid n.ball.centre

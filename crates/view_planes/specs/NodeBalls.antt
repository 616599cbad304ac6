-- The balls of a mesh's nodes are where a side is told of them.
use Rattle.std.proofs.Common.{◌≡◌, ℕ, ◌≤◌, true, ◌&&◌, leb, List, Some}
use Rattle.std.specs.Prelude.{IsTrue, slice_get}
use Rattle.std.specs.List.{list_all}
use Rattle.std.proofs.lemmas.Bool.{and_parts, leb-true}
use Rattle.grid_vertex.specs.Points.{is_in_grid}
use Rattle.file_model.specs.declared.fields.Node.{Node}
use Rattle.file_model.specs.Rules.{is_node}
use Rattle.mesh_graph.specs.NearGrid.{each_passes}

ball_parts : (nodes : List Node) → IsTrue (list_all is_node nodes) → (v : ℕ) (n : Node) → slice_get nodes v ≡ Some n → (is_in_grid n.ball.centre ≡ true) × (leb n.ball.radius 4194304 ≡ true)
ball_parts nodes all v n here =
    let node = each_passes is_node nodes v n all here in
    and_parts (is_in_grid n.ball.centre) (leb n.ball.radius 4194304) (and_parts (is_in_grid n.ball.centre && leb n.ball.radius 4194304) (leb n.error 1048576) node).0

pub centre_in_grid : (nodes : List Node) → IsTrue (list_all is_node nodes) → (v : ℕ) (n : Node) → slice_get nodes v ≡ Some n → IsTrue (is_in_grid n.ball.centre)
centre_in_grid nodes all v n here = (ball_parts nodes all v n here).0

pub radius_bound : (nodes : List Node) → IsTrue (list_all is_node nodes) → (v : ℕ) (n : Node) → slice_get nodes v ≡ Some n → n.ball.radius ≤ 4194304
radius_bound nodes all v n here = leb-true n.ball.radius 4194304 (ball_parts nodes all v n here).1

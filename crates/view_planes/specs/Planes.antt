-- A view with half-spaces: what of a mesh it wants.
use Rattle.std.specs.Prelude.{ℕ, Bool, true, List, [], ◌∷◌, ◌++◌, length, map, nat_lt, Option, Some, None, if◌then◌else◌}
use Rattle.std.specs.List.{list_any}
use Rattle.grid_vertex.specs.declared.balls.Ball.{Ball}
use Rattle.file_model.specs.declared.fields.Node.{Node}
use Rattle.mesh_model.specs.Meshes.{MeshLists}
use Rattle.round_model.specs.Order.{Rules}
use Rattle.round_model.specs.Scores.{score_of}
use Rattle.round_model.specs.Views.{ViewSeen, rules_of}
use Rattle.view_planes.specs.HalfSpaces.{HalfSpaceSeen, is_behind}

pub record PlanesSeen : Type 0 where
  pub view : ViewSeen
  pub planes : List HalfSpaceSeen

-- there is room for another half-space
abbrev pub has_room : List HalfSpaceSeen → Bool
has_room planes = nat_lt (length planes) 6

-- the half-space is put behind the others, where there is room
abbrev pub with_plane : PlanesSeen → HalfSpaceSeen → PlanesSeen
with_plane seen plane = if has_room seen.planes then record { view = seen.view; planes = seen.planes ++ plane ∷ [] } else seen

-- the ball is behind one of the half-spaces
abbrev pub is_culled : List HalfSpaceSeen → Ball → Bool
is_culled planes ball = list_any (λ (plane : HalfSpaceSeen). is_behind plane ball) planes

-- the node is culled; nothing is seen of one that isn't there
abbrev pub is_culled_node : List HalfSpaceSeen → Option Node → Bool
is_culled_node planes None = true
is_culled_node planes (Some node) = is_culled planes node.ball

-- a culled node has score 0, another the view's
abbrev pub culled_score : PlanesSeen → Node → ℕ
culled_score seen node = if is_culled seen.planes node.ball then 0 else score_of seen.view.eye seen.view.focal node

abbrev pub culled_scores : PlanesSeen → MeshLists → List ℕ
culled_scores seen mesh = map (culled_score seen) mesh.index.nodes

-- what is wanted of a mesh
abbrev pub planes_rules : PlanesSeen → MeshLists → Rules
planes_rules seen mesh = rules_of mesh (culled_scores seen mesh) seen.view.threshold seen.view.limit

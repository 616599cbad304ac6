-- Views, the numbers that they are made of, and the rules of a round that they give.
use Rattle.std.specs.Prelude.{ℕ, Bool, ◌&&◌, List, map, Option, Some, None, if◌then◌else◌}
use Rattle.grid_vertex.specs.declared.points.Point.{Point}
use Rattle.grid_vertex.specs.Points.{is_point_within}
use Rattle.file_model.specs.Rules.{is_between}
use Rattle.mesh_model.specs.Meshes.{MeshLists}
use Rattle.round_model.specs.declared.limits.TheConstants.{EYE_REACH, GREATEST_FOCAL, GREATEST_THRESHOLD}
use Rattle.round_model.specs.Order.{Rules}
use Rattle.round_model.specs.Scores.{score_of}

-- where the eye is, the focal number, the score that a wanted node is above, and how many triangles a
-- refined frame has at most
pub record ViewSeen : Type 0 where
  pub eye : Point
  pub focal : ℕ
  pub threshold : ℕ
  pub limit : ℕ

-- the eye's coordinates, the focal number and the threshold are in their ranges
abbrev pub is_view : Point → ℕ → ℕ → Bool
is_view eye focal threshold = is_point_within EYE_REACH eye && is_between 1 GREATEST_FOCAL focal && is_between 1 GREATEST_THRESHOLD threshold

-- the view of numbers in their ranges, and none of others
abbrev pub view_of : Point → ℕ → ℕ → ℕ → Option ViewSeen
view_of eye focal threshold limit =
    if is_view eye focal threshold then Some (record { eye = eye; focal = focal; threshold = threshold; limit = limit }) else None

-- the rules of a round over the mesh: each node's score, the score that a wanted node is above, and the
-- limit of a refined frame
unfoldable pub rules_of : MeshLists → List ℕ → ℕ → ℕ → Rules
rules_of mesh scores threshold limit = record { mesh = mesh; scores = scores; threshold = threshold; limit = limit }

-- what a view wants of a mesh
abbrev pub view_rules : ViewSeen → MeshLists → Rules
view_rules view mesh = rules_of mesh (map (score_of view.eye view.focal) mesh.index.nodes) view.threshold view.limit

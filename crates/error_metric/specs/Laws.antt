-- The scores from an eye are as many as the nodes, and fall along the arcs of a mesh.
use Rattle.std.proofs.Common.{◌≡◌, ℕ, length, map, refl}
use Rattle.std.proofs.lemmas.List.{length-map}
use Rattle.mesh_model.specs.Meshes.{MeshLists, IsMesh}
use Rattle.round_model.specs.Scores.{score_of}
use Rattle.round_laws.specs.Parents.{FallsAlong, falls_from_eye}
use Rattle.round_model.specs.Views.{rules_of}
use Rattle.round_model.specs.Views.{ViewSeen}

pub as_many_scores : (seen : ViewSeen) (mesh : MeshLists) → length (map (score_of seen.eye seen.focal) mesh.index.nodes) ≡ length mesh.index.nodes
as_many_scores seen mesh = length-map mesh.index.nodes (score_of seen.eye seen.focal)

pub scores_fall : (seen : ViewSeen) (mesh : MeshLists) (limit : ℕ) → IsMesh mesh → FallsAlong (rules_of mesh (map (score_of seen.eye seen.focal) mesh.index.nodes) seen.threshold limit)
unfolding rules_of
scores_fall seen mesh limit is =
    falls_from_eye seen.eye seen.focal (rules_of mesh (map (score_of seen.eye seen.focal) mesh.index.nodes) seen.threshold limit) is (record { scores = refl })

-- The score of a node of a mesh.
use Rattle.std.proofs.Common.{◌≡◌, ℕ, List, Some, map, ap, ◌∙◌}
use Rattle.std.specs.Prelude.{slice_get, option_map}
use Rattle.std.proofs.lemmas.Option.{slice_get-map}
use Rattle.grid_vertex.specs.declared.points.Point.{Point}
use Rattle.file_model.specs.declared.fields.Node.{Node}
use Rattle.round_model.specs.Scores.{score_of}

pub score_at : (eye : Point) (focal : ℕ) (nodes : List Node) (v : ℕ) (n : Node) → slice_get nodes v ≡ Some n → slice_get (map (score_of eye focal) nodes) v ≡ Some (score_of eye focal n)
score_at eye focal nodes v n here = slice_get-map (score_of eye focal) nodes v ∙ ap (option_map (score_of eye focal)) here

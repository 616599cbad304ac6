-- The board beside the seats.
use Rattle.std.specs.Prelude.{◌≡◌, ℕ, List, length, map, Some}
use Rattle.mesh_model.specs.Meshes.{MeshLists}
use Rattle.round_model.specs.Scores.{score_of}
use Rattle.round_model.specs.Views.{ViewSeen}
use Rattle.tier_model.specs.Ranks.{Posted}
use Rattle.token_words.specs.declared.session_sets.TheConstants.{SESSIONS}
use Rattle.wish_board.specs.Boards.{BoardSeen, Fits, posted_view, with_view}

-- the board is for the mesh, with a place for each session's view
pub record IsBoardFor (mesh : MeshLists) (board : BoardSeen) : Type 0 where
  pub fits : Fits board mesh.index
  pub many : length board.views ≡ SESSIONS

-- what a view posts: each node's score in it, and the score that a wanted node is above
abbrev pub posting_view : ViewSeen → MeshLists → Posted
posting_view view mesh = posted_view (map (score_of view.eye view.focal) mesh.index.nodes) view.threshold

-- the session's view is posted
abbrev pub posted_on : BoardSeen → ℕ → ViewSeen → MeshLists → BoardSeen
posted_on board i view mesh = with_view board i (Some (posting_view view mesh))

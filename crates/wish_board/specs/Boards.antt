-- A board of posted views, and its changes.
use Rattle.std.specs.Prelude.{◌≡◌, ℕ, ◌+◌, ◌-◌, ◌%◌, ◌^◌, List, length, replicate, Option, None, is_some, slice_index_or, slice_set, if◌then◌else◌}
use Rattle.file_model.specs.declared.fields.PatchField.{PatchField}
use Rattle.file_model.specs.Lists.{IndexLists}
use Rattle.mesh_model.specs.Meshes.{MeshLists}
use Rattle.tier_model.specs.Ranks.{Posted, wish_of}
use Rattle.token_words.specs.declared.session_sets.TheConstants.{SESSIONS}

-- how many nodes and which patches the board is for, the view that each session posted, session 1's
-- first, and the version
pub record BoardSeen : Type 0 where
  pub nodes : ℕ
  pub fields : List PatchField
  pub views : List (Option Posted)
  pub version : ℕ

-- the index has the board's nodes and patches
pub record Fits (board : BoardSeen) (index : IndexLists) : Type 0 where
  pub nodes : board.nodes ≡ length index.nodes
  pub fields : board.fields ≡ index.fields

-- the wish of a patch over the posted views
abbrev pub board_wish : BoardSeen → ℕ → ℕ
board_wish board p = wish_of board.fields board.views p

abbrev pub posted_view : List ℕ → ℕ → Posted
posted_view scores threshold = record { scores = scores; threshold = threshold }

-- no session has a view
abbrev pub no_posted : List (Option Posted)
no_posted = replicate SESSIONS None

-- a board for the mesh, without views
unfoldable pub empty_board : MeshLists → BoardSeen
empty_board mesh = record { nodes = length mesh.index.nodes; fields = mesh.index.fields; views = no_posted; version = 0 }

-- the version after this one; 0 follows the last
abbrev pub next_version : ℕ → ℕ
next_version version = (version + 1) % 2 ^ 64

-- the view that the session posted
abbrev pub view_of : BoardSeen → ℕ → Option Posted
view_of board session = slice_index_or board.views (session - 1) None

-- the session's view, or none, in place of an earlier one
unfoldable pub with_view : BoardSeen → ℕ → Option Posted → BoardSeen
with_view board session view = record board { views = slice_set board.views (session - 1) view; version = next_version board.version }

-- the session has no view, and the version rises if it had one
unfoldable pub without_view : BoardSeen → ℕ → BoardSeen
without_view board session = if is_some (view_of board session) then with_view board session None else board

-- What callers see of a board, and what holds of its parts.
use Rattle.std.specs.Prelude.{◌≡◌, ℕ, List, length}
use Rattle.std.specs.List.{AllByRecursion}
use Rattle.mesh_laws.specs.Ends.{HasEnds}
use Rattle.wish_board.specs.declared.boards.WishBoard.TheInside.{Inside}
use Rattle.token_words.specs.declared.session_sets.TheConstants.{SESSIONS}
use Rattle.wish_board.specs.Maxima.{AreScored, AreGreatest}
use Rattle.wish_board.specs.Boards.{BoardSeen}

abbrev pub board_view : Inside → BoardSeen
board_view b = record { nodes = length b.greatest.items; fields = b.fields.items; views = b.views.items; version = b.version }

-- a board, with the greatest wish of each node
pub record IsBoard (board : BoardSeen) (maxima : List ℕ) : Type 0 where
  pub sessions : length board.views ≡ SESSIONS
  pub ends : AllByRecursion (HasEnds board.nodes) board.fields
  pub scored : AreScored board.nodes board.views
  pub greatest : AreGreatest board.nodes board.views maxima

abbrev pub IsBoardInside : Inside → Type 0
IsBoardInside b = IsBoard (board_view b) b.greatest.items

-- A chain of a mesh with the words and the board that its turns take.
use Rattle.std.specs.Prelude.{◌≡◌, ◌≤◌, length}
use Rattle.accepted_mesh.specs.MeshView.{MeshSeen}
use Rattle.token_words.specs.declared.plain_words.PlainTokens.{PlainTokens}
use Rattle.token_words.specs.PlainTokens.{patch_count, epoch_of, is_pinned}
use Rattle.tier_laws.specs.ChainLaws.{IsTopTied}
use Rattle.transfer_step.specs.TurnWords.{board_of}
use Rattle.cache_chain.specs.ChainStates.{ChainSeen}
use Rattle.cache_chain.specs.Turning.{chain_of, AllKeepWishes}
use Rattle.wish_board.specs.Boards.{BoardSeen, Fits, board_wish}

-- the chain's tiers may turn with these words and this board
pub record IsReady {S : Type 0} (mesh : MeshSeen) (chain : ChainSeen S) (words : PlainTokens) (board : BoardSeen) : Type 0 where
  pub same : chain.mesh ≡ mesh
  pub fits : Fits board mesh.lists.index
  pub many : length mesh.lists.index.fields ≤ patch_count words
  pub tied : IsTopTied (chain_of chain.tiers (epoch_of words)) (is_pinned words)
  pub wishes : AllKeepWishes (board_of (board_wish board) board.version) chain.tiers

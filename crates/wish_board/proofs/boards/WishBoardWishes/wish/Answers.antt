-- The wish of a patch is the greatest one of its tail.
use Rattle.std.proofs.Common.{◌<◌, ap, sym, subst, refl, length, ◌∙◌}
use Rattle.wish_board.specs.Boards.{BoardSeen, board_wish}
use Rattle.wish_board.specs.BoardView.{board_view}
use Rattle.wish_board.proofs.BoardLemmas.{wish-is}
use Rattle.wish_board.proofs.boards.WishBoardWishes.wish.Goals as goal

pub returns : goal.returns
returns c =
    wish-is (board_view c.self.inside) c.self.inside.greatest.items c.args.patch c.index-2.result.now c.index.result.now c.self.invariant refl
    (subst (λ (b : BoardSeen). c.args.patch < length b.fields) (sym c.self.view_is) c.requires) c.index.ensures c.index-2.ensures
    ∙ ap (λ (b : BoardSeen). board_wish b c.args.patch) c.self.view_is

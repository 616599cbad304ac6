-- The session's view is taken off, or there was none.
use Rattle.std.proofs.Common.{None, not, ap, sym, ◌∙◌}
use Rattle.wish_board.specs.Boards.{BoardSeen, with_view, without_view}
use Rattle.wish_board.specs.BoardView.{board_view}
use Rattle.wish_board.proofs.BoardLemmas.{session_within, taken-off, left-on}
use Rattle.wish_board.proofs.boards.WishBoard.take_off.Goals as goal

pub returns-then-is_none-clause-board : goal.returns-then-is_none-clause-board
returns-then-is_none-clause-board c =
    let board = board_view c.self.inside in
    sym c.self.view_is
    ∙ left-on board c.args.session c.index.result.now (session_within board c.self.inside.greatest.items c.args.session c.self.invariant c.requires) c.index.ensures (c.is_none.ensures ∙ ap not c.if-is_none.true)
    ∙ ap (λ (b : BoardSeen). without_view b c.args.session) c.self.view_is

pub returns-clause-board : goal.returns-clause-board
returns-clause-board c =
    let board = board_view c.self.inside in
    c.put.ensures.board ∙ ap (λ (b : BoardSeen). with_view b c.args.session None) (sym c.self.view_is)
    ∙ taken-off board c.args.session c.index.result.now (session_within board c.self.inside.greatest.items c.args.session c.self.invariant c.requires) c.index.ensures (c.is_none.ensures ∙ ap not c.if-is_none.false)
    ∙ ap (λ (b : BoardSeen). without_view b c.args.session) c.self.view_is

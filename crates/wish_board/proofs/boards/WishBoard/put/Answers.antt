-- The session has another view, which the greatest wishes follow.
use Rattle.std.proofs.Common.{◌≡◌, List, length, Option, IfSome, ap, sym, subst, ◌∙◌, ◌-◌}
use Rattle.std.specs.Prelude.{slice_set}
use Rattle.std.specs.Vec.{with_items}
use Rattle.std.proofs.lemmas.List.{with_items_is}
use Rattle.tier_model.specs.Ranks.{Posted}
use Rattle.wish_board.specs.Maxima.{AreGreatest}
use Rattle.wish_board.specs.Boards.{BoardSeen, with_view}
use Rattle.wish_board.specs.BoardView.{board_view}
use Rattle.wish_board.proofs.BoardLemmas.{scored-set, board-moved, with_view_is, earlier-scored, set-back, session_within}
use Rattle.wish_board.proofs.boards.WishBoard.put.Goals as goal

pub follow-requires-clause-earlier : goal.follow-requires-clause-earlier
follow-requires-clause-earlier c =
    let board = board_view c.self.inside in
    rw (c.replace-earlier.ensures.value, c.deref_mut.ensures.value)
    (earlier-scored board.nodes board.views (c.args.session - 1) c.index_mut.result.now c.self.invariant.scored (session_within board c.self.inside.greatest.items c.args.session c.self.invariant c.requires.session) c.index_mut.ensures.value)

pub follow-requires-clause-scored : goal.follow-requires-clause-scored
follow-requires-clause-scored c =
    let board = board_view c.self.inside in
    let scored = subst (λ (b : BoardSeen). IfSome c.args.view (λ (v : Posted). length v.scores ≡ b.nodes)) (sym c.self.view_is) c.requires.scored in
    rw (c.deref.ensures.value, c.deref_mut.ensures.value, c.replace-earlier.ensures.after) (scored-set board.nodes board.views (c.args.session - 1) c.args.view c.self.invariant.scored scored)

pub follow-requires-clause-greatest : goal.follow-requires-clause-greatest
follow-requires-clause-greatest c =
    let board = board_view c.self.inside in
    let back = set-back board.views (c.args.session - 1) c.replace-earlier.new.dest c.index_mut.result.now c.index_mut.ensures.value in
    rw (c.replace-earlier.ensures.value, c.deref.ensures.value, c.deref_mut.ensures.value)
    (subst (λ (vs : List (Option Posted)). AreGreatest board.nodes vs c.self.inside.greatest.items) (sym back) c.self.invariant.greatest)

pub invariant_of-self : goal.invariant_of-self
invariant_of-self c =
    let board = board_view c.self.inside in
    let views = slice_set board.views (c.args.session - 1) c.replace-earlier.new.dest in
    let now = c.follow.new.greatest in
    let scored = subst (λ (b : BoardSeen). IfSome c.args.view (λ (v : Posted). length v.scores ≡ b.nodes)) (sym c.self.view_is) c.requires.scored in
    let same = subst (λ (o : Option Posted). IfSome o (λ (v : Posted). length v.scores ≡ board.nodes)) (sym c.replace-earlier.ensures.after) scored in
    let greatest : AreGreatest board.nodes views now = rw (← c.deref.ensures.value, ← c.deref_mut.ensures.value) c.follow.ensures in
    board-moved board c.self.inside.greatest.items now (with_items c.self.inside.greatest now).items (c.args.session - 1) _ c.replace-earlier.new.dest c.self.invariant same greatest
    (with_items_is c.self.inside.greatest now (greatest.all_nodes ∙ sym c.self.inside.greatest.ok.0))

pub returns-clause-board : goal.returns-clause-board
returns-clause-board c =
    let board = board_view c.self.inside in
    let views = slice_set board.views (c.args.session - 1) c.replace-earlier.new.dest in
    let now = c.follow.new.greatest in
    let greatest : AreGreatest board.nodes views now = rw (← c.deref.ensures.value, ← c.deref_mut.ensures.value) c.follow.ensures in
    with_view_is board now (with_items c.self.inside.greatest now).items c.args.session c.replace-earlier.new.dest greatest
    (with_items_is c.self.inside.greatest now (greatest.all_nodes ∙ sym c.self.inside.greatest.ok.0))
    ∙ ap (λ (o : Option Posted). with_view board c.args.session o) c.replace-earlier.ensures.after
    ∙ ap (λ (b : BoardSeen). with_view b c.args.session c.args.view) c.self.view_is

-- A board without views.
use Rattle.std.proofs.Common.{rules}
use Rattle.wish_board.proofs.BoardLemmas.{board-new, empty_is}
use Rattle.wish_board.proofs.boards.WishBoard.new.Goals as goal

pub invariant_of-result : goal.invariant_of-result
invariant_of-result c = board-new c.args.mesh.now.lists c.in_ok-no_views.field-0.items c.in_ok-to_vec.field-0.items c.in_ok-vec.field-0.items c.index-index.ensures.facts.rules (search rules) c.in_ok-no_views.ensures (search rules)

pub returns : goal.returns
returns c = empty_is c.args.mesh.now.lists c.in_ok-no_views.field-0.items c.in_ok-to_vec.field-0.items c.in_ok-vec.field-0.items (search rules) c.in_ok-no_views.ensures (search rules)

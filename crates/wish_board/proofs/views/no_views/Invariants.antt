-- The sessions before this one have no view.
use Rattle.std.proofs.Common.{◌≡◌, None, replicate}
use Rattle.wish_board.proofs.views.no_views.Given as goal

abbrev pub invariant-loop-session : goal.invariant-loop-session
invariant-loop-session l = l.views.items ≡ replicate l._session None

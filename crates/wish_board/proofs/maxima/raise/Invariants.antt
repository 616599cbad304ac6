-- The nodes before this one have been raised.
use Rattle.wish_board.specs.Maxima.{AreRaised}
use Rattle.wish_board.proofs.maxima.raise.Given as goal

abbrev pub invariant-loop-node : goal.invariant-loop-node
invariant-loop-node l = AreRaised l.view l.node l.fn.greatest l.greatest

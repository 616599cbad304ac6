-- The nodes before this one have been lowered.
use Rattle.wish_board.specs.Maxima.{AreLowered}
use Rattle.wish_board.proofs.maxima.lower.Given as goal

abbrev pub invariant-loop-node : goal.invariant-loop-node
invariant-loop-node l = AreLowered l.left l.views l.node l.fn.greatest l.greatest

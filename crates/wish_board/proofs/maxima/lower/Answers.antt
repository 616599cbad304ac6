-- Each view has a score for the node.
use Rattle.std.proofs.Common.{arith}
use Rattle.wish_board.specs.Maxima.{AreScored}
use Rattle.wish_board.proofs.maxima.lower.Goals as goal

pub greatest_wish-requires-clause-scored : goal.greatest_wish-requires-clause-scored
unfolding AreScored
greatest_wish-requires-clause-scored c i view at = let many = c.requires.scored i view at in let same = c.loop-node.invariant.all_nodes in omega (arith, many, same, c.loop-node-test.true)

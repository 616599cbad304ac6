-- The chain may turn.
use Rattle.chain_tests.specs.Scenes.{IsReady}
use Rattle.chain_tests.proofs.tests.scenes.turns_of.Given as goal

abbrev pub invariant-loop-deed : goal.invariant-loop-deed
invariant-loop-deed g l = IsReady l.mesh l.chain l.words l.board

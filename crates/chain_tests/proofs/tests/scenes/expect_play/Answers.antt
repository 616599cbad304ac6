-- The chain that starts may turn.
use Rattle.chain_tests.proofs.SceneLaws.{ready_at_start}
use Rattle.chain_tests.proofs.tests.scenes.expect_play.Goals as goal

pub expect_turns-requires : goal.expect_turns-requires
expect_turns-requires g c = ready_at_start c.in_ok-mesh.mesh c.in-Ok.chain c.in_ok-words.words c.in_ok-board.board _ c.args.scene.now.budgets.now c.args.scene.now.width c.requires.some_budget c.words_of.ensures.facts c.in-Ok.ensures.mesh c.in_ok-board.ensures c.in_ok-words.ensures.start c.in-Ok.ensures.opened

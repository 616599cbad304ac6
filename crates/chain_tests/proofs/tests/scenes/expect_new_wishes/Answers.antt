-- All tiers have other versions than the board.
use Rattle.std.proofs.Common.{arith}
use Rattle.transfer_step.specs.TurnWords.{board_of}
use Rattle.wish_board.specs.Boards.{board_wish}
use Rattle.chain_tests.proofs.SceneLaws.{others_keep}
use Rattle.chain_tests.proofs.tests.scenes.expect_new_wishes.Goals as goal

pub returns : goal.returns
returns g c =
    let board = c.args.board.now in
    let many = c.tier_count-tier-end.ensures.value in
    let all = c.loop-tier-test.false in
    others_keep (board_of (board_wish board) board.version) c.args.chain.now.tiers c.loop-tier.tier (omega (arith, many, all)) c.loop-tier.invariant

-- The board still fits the mesh, and no tier has taken its wishes.
use Rattle.chain_tests.proofs.SceneLaws.{ready_posted}
use Rattle.chain_tests.proofs.tests.scenes.post.Goals as goal

pub returns : goal.returns
returns g c = ready_posted c.args.mesh.now c.args.chain.now c.args.words.now c.args.board.now c.post.new.self c.args.session _ c.in_ok-post.ensures.posted c.in_ok-expect_new_wishes.ensures c.requires

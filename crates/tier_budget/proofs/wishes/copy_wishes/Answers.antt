-- One more wish is written.
use Rattle.tier_budget.proofs.IndexWalks.{wished_more}
use Rattle.tier_budget.proofs.wishes.copy_wishes.Goals as goal

pub loop-patch-preserved : goal.loop-patch-preserved
loop-patch-preserved g c = wished_more (g.W.Wishes.wish_of c.args.wishes.now) c.args.kept.now c.loop-patch.kept c.loop-patch.patch c.wish.result c.loop-patch-test.true c.loop-patch.invariant c.wish.ensures

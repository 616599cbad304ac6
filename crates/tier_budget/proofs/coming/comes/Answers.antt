-- One of them is of the patch.
use Rattle.std.proofs.Common.{sym, ◌∙◌}
use Rattle.tier_budget.proofs.ComingWalks.{past_end, comes_here, comes_after, none_comes_after}
use Rattle.tier_budget.proofs.coming.comes.Goals as goal

pub returns-then-one-patch : goal.returns-then-one-patch
returns-then-one-patch c = sym (c.loop-one.invariant ∙ comes_here c.args.coming.now c.loop-one.one-index c.args.patch past_end c.loop-one-test.true c.if-one-patch.true)

pub loop-one-preserved : goal.loop-one-preserved
loop-one-preserved c = c.loop-one.invariant ∙ comes_after c.args.coming.now c.loop-one.one-index c.args.patch past_end c.loop-one-test.true c.if-one-patch.false

pub returns : goal.returns
returns c = sym (c.loop-one.invariant ∙ none_comes_after c.args.coming.now c.loop-one.one-index c.args.patch c.loop-one-test.false)

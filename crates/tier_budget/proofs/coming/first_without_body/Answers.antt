-- The first that has no body was found.
use Rattle.std.proofs.Common.{sym, ◌∙◌}
use Rattle.tier_budget.proofs.ComingWalks.{past_end, bare_here, bare_later, none_is_bare}
use Rattle.tier_budget.proofs.coming.first_without_body.Goals as goal

pub returns-then-not-one : goal.returns-then-not-one
returns-then-not-one c = sym (c.loop-one.invariant ∙ bare_here c.args.coming.now c.loop-one.one-index past_end c.loop-one-test.true c.if-not-one.true)

pub loop-one-preserved : goal.loop-one-preserved
loop-one-preserved c = c.loop-one.invariant ∙ bare_later c.args.coming.now c.loop-one.one-index past_end c.loop-one-test.true c.if-not-one.false

pub returns : goal.returns
returns c = sym (c.loop-one.invariant ∙ none_is_bare c.args.coming.now c.loop-one.one-index c.loop-one-test.false)

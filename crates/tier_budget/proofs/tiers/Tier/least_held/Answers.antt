-- The least of the heap is below the given patch, or no patch is.
use Rattle.std.proofs.Common.{sym, ◌∙◌}
use Rattle.tier_budget.specs.TierView.{tier_view}
use Rattle.tier_budget.proofs.LeavingSteps.{leaving_of_view}
use Rattle.tier_budget.proofs.LeastHeld.{least_leaves, least_stays}
use Rattle.tier_budget.proofs.tiers.Tier.least_held.Goals as goal

pub returns-then-outranks : goal.returns-then-outranks
returns-then-outranks c =
    let heap = leaving_of_view (tier_view c.self.inside) c.args.self.now c.self.inside.leaving c.self.view_is c.self.invariant.leaving in
    least_leaves c.args.self.now.state c.self.inside.leaving c.args.below _ heap c.in_ok-patch.ensures.least (sym c.outranks.ensures ∙ c.if-outranks.true)

pub returns-else-outranks : goal.returns-else-outranks
returns-else-outranks c =
    let heap = leaving_of_view (tier_view c.self.inside) c.args.self.now c.self.inside.leaving c.self.view_is c.self.invariant.leaving in
    least_stays c.args.self.now.state c.self.inside.leaving c.args.below _ heap c.in_ok-patch.ensures.least (sym c.outranks.ensures ∙ c.if-outranks.false)

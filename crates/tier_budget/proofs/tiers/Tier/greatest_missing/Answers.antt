-- The greatest of the heap that fits.
use Rattle.std.proofs.Common.{ℕ, Bool}
use Rattle.tier_budget.specs.TierView.{tier_view}
use Rattle.tier_budget.proofs.MissingSteps.{missing_of_view}
use Rattle.tier_budget.proofs.GreatestMissing.{greatest_chooses}
use Rattle.tier_budget.proofs.tiers.Tier.greatest_missing.Goals as goal

pub returns-clause-choice : goal.returns-clause-choice
returns-clause-choice g c =
    let heap = missing_of_view (tier_view c.self.inside) c.args.self.now c.self.inside.missing c.self.view_is c.self.invariant.missing in
    let answers = λ (p : ℕ) (answer : Bool). g.F.Fn.post c.args.fits (p, tt) answer in
    greatest_chooses c.args.self.now.state c.self.inside.missing answers heap c.greatest_where.result c.greatest_where.ensures.none c.greatest_where.ensures.greatest

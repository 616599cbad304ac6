-- The candidate is sought where there is a place.
use Rattle.std.proofs.Common.{◌≡◌, ap, ◌∙◌, length, arith}
use Rattle.transfer_step.specs.TurnWords.{told_of}
use Rattle.transfer_step.proofs.RuleSteps.{sought_there, sought_full}
use Rattle.transfer_step.proofs.admitting.seek.Goals as goal

pub returns-then-coming-width-clause-sought : goal.returns-then-coming-width-clause-sought
returns-then-coming-width-clause-sought g c =
    let s = c.args.tier.now.state in
    let many : length c.coming.result.now ≡ length s.coming = ap (λ cs. length cs) c.coming.ensures in
    c.find_candidate.ensures.candidate
    ∙ sought_there (told_of (g.B.Supply.has (g.B.Supply.place c.args.below.now)) g.K.Keeper.has_words (g.K.Keeper.epochs c.args.keeper.now)) s (omega arith)

pub returns-else-coming-width-clause-sought : goal.returns-else-coming-width-clause-sought
returns-else-coming-width-clause-sought g c =
    let s = c.args.tier.now.state in
    let many : length c.coming.result.now ≡ length s.coming = ap (λ cs. length cs) c.coming.ensures in
    sought_full (told_of (g.B.Supply.has (g.B.Supply.place c.args.below.now)) g.K.Keeper.has_words (g.K.Keeper.epochs c.args.keeper.now)) s (omega arith)

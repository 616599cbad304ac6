-- The test answers which patches are admissible.
use Rattle.std.proofs.Common.{◌≡◌, ℕ, ◌-◌, false, List, ap, sym, ◌∙◌}
use Rattle.tier_model.specs.Tiers.{pinned_bytes}
use Rattle.transfer_step.specs.TurnWords.{told_of, may_come}
use Rattle.transfer_step.proofs.RuleSteps.{none_served}
use Rattle.transfer_step.proofs.admitting.find_candidate.Goals as goal

pub returns-clause-candidate : goal.returns-clause-candidate
returns-clause-candidate g c =
    let told = told_of (g.B.Supply.has (g.B.Supply.place c.args.below.now)) g.K.Keeper.has_words (g.K.Keeper.epochs c.args.keeper.now) in
    let s = c.args.tier.now.state in
    let room : c.saturating_sub-room.result ≡ s.budget - pinned_bytes s = cc in
    c.find_missing.ensures.candidate told (λ p answer within answered.
    sym (answered ∙ ap (λ (sizes : List ℕ). may_come told sizes c.saturating_sub-room.result p) c.requires.index ∙ ap (λ (n : ℕ). may_come told s.sizes n p) room))

pub returns-then-not-may_serve-clause-candidate : goal.returns-then-not-may_serve-clause-candidate
returns-then-not-may_serve-clause-candidate g c =
    let told = told_of (g.B.Supply.has (g.B.Supply.place c.args.below.now)) g.K.Keeper.has_words (g.K.Keeper.epochs c.args.keeper.now) in
    let refused = c.if-not-may_serve.true in
    let none : c.may_serve.result ≡ false = cc in
    none_served told c.args.tier.now.state (c.may_serve.ensures none)

-- The wishes decide, and of equal ones the numbers.
use Rattle.std.proofs.Common.{subst}
use Rattle.tier_model.specs.Tiers.{kept_wish, IsTier}
use Rattle.tier_budget.specs.TierView.{TierSeen, tier_view}
use Rattle.tier_budget.proofs.Ranking.{wish_read, more_wished, as_wished, less_wished}
use Rattle.tier_budget.proofs.tiers.Tier.outranks.Goals as goal

pub returns-then-others-wish : goal.returns-then-others-wish
returns-then-others-wish c =
    let seen = c.args.self.now in
    let tier = subst (λ (v : TierSeen). IsTier v.state) c.self.view_is c.self.invariant.sound.tier in
    more_wished (kept_wish seen.state) c.args.patch c.args.other c.index-wish.result.now c.index-others.result.now
    (wish_read (tier_view c.self.inside) seen c.args.patch c.index-wish.result.now c.self.view_is tier c.requires.patch c.index-wish.ensures)
    (wish_read (tier_view c.self.inside) seen c.args.other c.index-others.result.now c.self.view_is tier c.requires.other c.index-others.ensures)
    c.if-others-wish.true

pub returns-then-wish-others : goal.returns-then-wish-others
returns-then-wish-others c =
    let seen = c.args.self.now in
    let tier = subst (λ (v : TierSeen). IsTier v.state) c.self.view_is c.self.invariant.sound.tier in
    as_wished (kept_wish seen.state) c.args.patch c.args.other c.index-wish.result.now c.index-others.result.now
    (wish_read (tier_view c.self.inside) seen c.args.patch c.index-wish.result.now c.self.view_is tier c.requires.patch c.index-wish.ensures)
    (wish_read (tier_view c.self.inside) seen c.args.other c.index-others.result.now c.self.view_is tier c.requires.other c.index-others.ensures)
    c.if-others-wish.false c.if-wish-others.true

pub returns-else-wish-others : goal.returns-else-wish-others
returns-else-wish-others c =
    let seen = c.args.self.now in
    let tier = subst (λ (v : TierSeen). IsTier v.state) c.self.view_is c.self.invariant.sound.tier in
    less_wished (kept_wish seen.state) c.args.patch c.args.other c.index-wish.result.now c.index-others.result.now
    (wish_read (tier_view c.self.inside) seen c.args.patch c.index-wish.result.now c.self.view_is tier c.requires.patch c.index-wish.ensures)
    (wish_read (tier_view c.self.inside) seen c.args.other c.index-others.result.now c.self.view_is tier c.requires.other c.index-others.ensures)
    c.if-others-wish.false c.if-wish-others.false

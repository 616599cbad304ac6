-- A patch that comes has an even epoch below the last.
use Rattle.std.proofs.Common.{arith}
use Rattle.tier_laws.specs.ComingLaws.{first_comes}
use Rattle.tier_laws.specs.TierLaws.{comes_within}
use Rattle.transfer_step.proofs.WordLaws.{come_epochs, coming_is_even}
use Rattle.transfer_step.proofs.rules.commit_patch.Goals as goal

pub admit-requires-clause-patch : goal.admit-requires-clause-patch
admit-requires-clause-patch g c = λ has.
    let s = c.args.tier.now.state in
    let within = comes_within s c.args.patch c.budget.ensures.kept (first_comes s.coming c.args.patch c.requires.first) in
    let all = c.requires.words has in
    omega arith

pub admit-requires-clause-away : goal.admit-requires-clause-away
admit-requires-clause-away g c = λ has.
    let s = c.args.tier.now.state in
    coming_is_even s (g.K.Keeper.epochs c.args.keeper.now) (g.K.Keeper.pinned c.args.keeper.now) c.args.patch c.budget.ensures.kept (c.requires.tied has) (first_comes s.coming c.args.patch c.requires.first)

pub admit-requires-clause-below : goal.admit-requires-clause-below
admit-requires-clause-below g c = λ has. (c.requires.tied has).low c.args.patch (first_comes c.args.tier.now.state.coming c.args.patch c.requires.first)

pub returns-clause-epochs : goal.returns-clause-epochs
returns-clause-epochs g c = come_epochs g.K.Keeper.has_words c.args.patch (g.K.Keeper.epochs c.args.keeper.now) (g.K.Keeper.epochs c.admit.new.self) c.admit.ensures.epochs c.admit.ensures.without

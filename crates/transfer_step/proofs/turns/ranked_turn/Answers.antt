-- What the turn keeps follows from its rule.
use Rattle.std.proofs.Common.{◌≡◌, ◌++◌, IfOk, subst}
use Rattle.tier_model.specs.Tiers.{TierState}
use Rattle.tier_model.specs.Counts.{entries_of}
use Rattle.tier_model.specs.Keeping.{KeepsSetup}
use Rattle.transfer_step.specs.TurnWords.{told_of}
use Rattle.transfer_step.proofs.WholeTurns.{ranked_setup, ranked_journal, ranked_lost, ranked_tied}
use Rattle.transfer_step.proofs.turns.ranked_turn.Goals as goal

pub returns-clause-same : goal.returns-clause-same
returns-clause-same g c =
    let told = told_of (g.B.Supply.has (g.B.Supply.place c.args.below.now)) g.K.Keeper.has_words (g.K.Keeper.epochs c.args.keeper.now) in
    subst (λ (s : TierState). KeepsSetup s c.do_rule.new.tier.state) c.make_place.ensures.state
    (ranked_setup told c.make_place.new.self.state c.do_rule.new.tier.state c.do_rule.result c.do_rule.ensures.answer c.do_rule.ensures.none)

pub returns-clause-journal : goal.returns-clause-journal
returns-clause-journal g c =
    let told = told_of (g.B.Supply.has (g.B.Supply.place c.args.below.now)) g.K.Keeper.has_words (g.K.Keeper.epochs c.args.keeper.now) in
    subst (λ (s : TierState). IfOk c.do_rule.result (λ a. c.do_rule.new.tier.state.journal ≡ s.journal ++ entries_of a)) c.make_place.ensures.state
    (ranked_journal told c.make_place.new.self.state c.do_rule.new.tier.state c.do_rule.result c.do_rule.ensures.answer)

pub returns-clause-lost : goal.returns-clause-lost
returns-clause-lost g c =
    let told = told_of (g.B.Supply.has (g.B.Supply.place c.args.below.now)) g.K.Keeper.has_words (g.K.Keeper.epochs c.args.keeper.now) in
    ranked_lost told c.make_place.new.self.state c.do_rule.new.tier.state c.do_rule.result c.do_rule.ensures.answer

pub returns-clause-tied : goal.returns-clause-tied
returns-clause-tied g c = λ has.
    ranked_tied (g.B.Supply.has (g.B.Supply.place c.args.below.now)) g.K.Keeper.has_words (g.K.Keeper.epochs c.args.keeper.now) (g.K.Keeper.epochs c.do_rule.new.keeper) (g.K.Keeper.pinned c.args.keeper.now) (g.K.Keeper.pinned c.do_rule.new.keeper)
    c.make_place.new.self.state c.do_rule.new.tier.state c.do_rule.result has c.make_place.ensures.kept c.do_rule.ensures.answer c.do_rule.ensures.none c.do_rule.ensures.epochs c.do_rule.ensures.pins
    (rw c.make_place.ensures.state (c.requires.tied has))

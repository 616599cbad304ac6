-- What the words and the tier ask, and the answer by the uses found.
use Rattle.std.proofs.Common.{◌∙◌, arith}
use Rattle.tier_laws.specs.BodyLaws.{there_is_marked}
use Rattle.transfer_step.specs.TurnWords.{misses_in}
use Rattle.transfer_step.proofs.RuleSteps.{gone_answer, kept_answer}
use Rattle.transfer_step.proofs.WordLaws.{gone_epochs, kept_epochs}
use Rattle.transfer_step.proofs.evicting.evict.Goals as goal

pub evict-requires-clause-patch : goal.evict-requires-clause-patch
evict-requires-clause-patch g c = λ has. let all = c.requires.words has in omega arith

pub evict-requires-clause-there : goal.evict-requires-clause-there
evict-requires-clause-there g c = λ has. (c.requires.tied has).held c.args.patch c.requires.within ∙ c.requires.held

pub evict-requires-clause-free : goal.evict-requires-clause-free
evict-requires-clause-free g c = λ has. (c.requires.tied has).pins c.args.patch c.requires.within ∙ c.requires.free

pub drop_held-requires-clause-needs : goal.drop_held-requires-clause-needs
drop_held-requires-clause-needs g c = (c.requires.none_come, there_is_marked c.args.tier.now.state.held c.args.patch c.requires.held, c.requires.free)

pub returns-in-Gone-clause-answer : goal.returns-in-Gone-clause-answer
returns-in-Gone-clause-answer g c = gone_answer g.K.Keeper.has_words c.args.tier.now.state c.drop_held.new.self.state c.args.patch c.drop_held.ensures.state

pub returns-in-Gone-clause-epochs : goal.returns-in-Gone-clause-epochs
returns-in-Gone-clause-epochs g c = gone_epochs g.K.Keeper.has_words c.args.patch (g.K.Keeper.epochs c.args.keeper.now) (g.K.Keeper.epochs c.evict.new.self) c.in-Gone.ensures.epochs c.in-Gone.ensures.without

pub returns-in-Gone-clause-misses : goal.returns-in-Gone-clause-misses
unfolding misses_in
returns-in-Gone-clause-misses g c = c.in-Gone.ensures.misses

pub returns-in-Kept-clause-answer : goal.returns-in-Kept-clause-answer
returns-in-Kept-clause-answer g c = kept_answer g.K.Keeper.has_words c.args.tier.now.state c.pass_over.new.self.state c.args.patch c.in-Kept.uses c.in-Kept.ensures.kept c.in-Kept.ensures.gone c.pass_over.ensures.state

pub returns-in-Kept-clause-epochs : goal.returns-in-Kept-clause-epochs
returns-in-Kept-clause-epochs g c = kept_epochs g.K.Keeper.has_words c.args.patch c.in-Kept.uses (g.K.Keeper.epochs c.args.keeper.now) (g.K.Keeper.epochs c.evict.new.self) c.in-Kept.ensures.epochs c.in-Kept.ensures.without

pub returns-in-Kept-clause-misses : goal.returns-in-Kept-clause-misses
unfolding misses_in
returns-in-Kept-clause-misses g c = c.in-Kept.ensures.misses

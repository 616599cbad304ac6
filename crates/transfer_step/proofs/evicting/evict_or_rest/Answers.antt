-- The victim is held and not pinned.
use Rattle.std.proofs.Common.{sym, append-nil}
use Rattle.transfer_step.specs.TurnWords.{misses_in}
use Rattle.transfer_step.proofs.RuleSteps.{victim_of}
use Rattle.transfer_step.proofs.WordLaws.{idle_epochs}
use Rattle.transfer_step.proofs.evicting.evict_or_rest.Goals as goal

pub evict-requires-clause-within : goal.evict-requires-clause-within
evict-requires-clause-within g c = (victim_of c.args.tier.now.state c.args.ahead c.in-Some.patch (sym c.in-Some.ensures)).1.within

pub evict-requires-clause-held : goal.evict-requires-clause-held
evict-requires-clause-held g c = (victim_of c.args.tier.now.state c.args.ahead c.in-Some.patch (sym c.in-Some.ensures)).1.may.held

pub evict-requires-clause-free : goal.evict-requires-clause-free
evict-requires-clause-free g c = (victim_of c.args.tier.now.state c.args.ahead c.in-Some.patch (sym c.in-Some.ensures)).1.may.not_pinned

pub returns-in-None-clause-epochs : goal.returns-in-None-clause-epochs
returns-in-None-clause-epochs g c = idle_epochs g.K.Keeper.has_words (g.K.Keeper.epochs c.args.keeper.now)

pub returns-in-None-clause-misses : goal.returns-in-None-clause-misses
unfolding misses_in
returns-in-None-clause-misses g c = λ tells. sym (append-nil (g.K.Keeper.misses c.args.keeper.now))

use Rattle.tier_laws.specs.TieLaws.{tied-turned, counted-turned}
use Rattle.tier_laws.proofs.tiers.a_turn_keeps_the_tie.Goals as goal

pub returns-clause-tied : goal.returns-clause-tied
returns-clause-tied c = tied-turned

pub returns-clause-counted : goal.returns-clause-counted
returns-clause-counted c = counted-turned

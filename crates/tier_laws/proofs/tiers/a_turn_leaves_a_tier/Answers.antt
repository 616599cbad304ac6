use Rattle.tier_laws.specs.TurnLaws.{IsTier-turned, setup-turned, journal-turned, file-turned, wishes-turned}
use Rattle.tier_laws.proofs.tiers.a_turn_leaves_a_tier.Goals as goal

pub returns-clause-tier : goal.returns-clause-tier
returns-clause-tier c = IsTier-turned

pub returns-clause-setup : goal.returns-clause-setup
returns-clause-setup c = setup-turned

pub returns-clause-journal : goal.returns-clause-journal
returns-clause-journal c = journal-turned

pub returns-clause-of_file : goal.returns-clause-of_file
returns-clause-of_file c = file-turned

pub returns-clause-wishes : goal.returns-clause-wishes
returns-clause-wishes c = wishes-turned

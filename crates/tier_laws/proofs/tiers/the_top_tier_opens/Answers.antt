use Rattle.tier_laws.specs.OpeningLaws.{IsTier-opened_top, file-opened_top, tied-opened, counted-opened}
use Rattle.tier_laws.proofs.tiers.the_top_tier_opens.Goals as goal

pub returns-clause-tier : goal.returns-clause-tier
returns-clause-tier c = IsTier-opened_top

pub returns-clause-of_file : goal.returns-clause-of_file
returns-clause-of_file c = file-opened_top

pub returns-clause-tied : goal.returns-clause-tied
returns-clause-tied c = tied-opened

pub returns-clause-counted : goal.returns-clause-counted
returns-clause-counted c = counted-opened

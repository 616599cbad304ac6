use Rattle.tier_laws.specs.OpeningLaws.{IsTier-fresh, IsTier-with_pin}
use Rattle.tier_laws.proofs.tiers.a_tier_begins.Goals as goal

pub returns-clause-empty : goal.returns-clause-empty
returns-clause-empty c = IsTier-fresh

pub returns-clause-pinned : goal.returns-clause-pinned
returns-clause-pinned c = IsTier-with_pin

use Rattle.tier_laws.specs.TierLaws.{IsTier-reserved, IsTier-arrived, IsTier-aborted, IsTier-committed, IsTier-dropped, IsTier-passed_over, IsTier-calmed, IsTier-renewed, IsTier-ranked}
use Rattle.tier_laws.proofs.tiers.a_change_leaves_a_tier.Goals as goal

pub returns-clause-reserved : goal.returns-clause-reserved
returns-clause-reserved c = IsTier-reserved

pub returns-clause-arrived : goal.returns-clause-arrived
returns-clause-arrived c = IsTier-arrived

pub returns-clause-aborted : goal.returns-clause-aborted
returns-clause-aborted c = IsTier-aborted

pub returns-clause-committed : goal.returns-clause-committed
returns-clause-committed c = IsTier-committed

pub returns-clause-dropped : goal.returns-clause-dropped
returns-clause-dropped c = IsTier-dropped

pub returns-clause-passed_over : goal.returns-clause-passed_over
returns-clause-passed_over c = IsTier-passed_over

pub returns-clause-calmed : goal.returns-clause-calmed
returns-clause-calmed c = IsTier-calmed

pub returns-clause-renewed : goal.returns-clause-renewed
returns-clause-renewed c = IsTier-renewed

pub returns-clause-ranked : goal.returns-clause-ranked
returns-clause-ranked c = IsTier-ranked

use Rattle.tier_laws.specs.ChainLaws.{tiers_settled, tied_settled}
use Rattle.tier_laws.proofs.tiers.settling_leaves_tiers.Goals as goal

pub returns-clause-tiers : goal.returns-clause-tiers
returns-clause-tiers c = tiers_settled

pub returns-clause-tied : goal.returns-clause-tied
returns-clause-tied c = tied_settled

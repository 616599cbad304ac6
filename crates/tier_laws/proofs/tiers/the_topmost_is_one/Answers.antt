use Rattle.tier_laws.specs.RankLaws.{outranks_is_ranking}
use Rattle.tier_laws.specs.TopmostLaws.{topmost-chooses, topmost-is}
use Rattle.tier_laws.proofs.tiers.the_topmost_is_one.Goals as goal

pub returns-clause-ranking : goal.returns-clause-ranking
returns-clause-ranking c = outranks_is_ranking

pub returns-clause-chooses : goal.returns-clause-chooses
returns-clause-chooses c = topmost-chooses

pub returns-clause-one : goal.returns-clause-one
returns-clause-one c = topmost-is

use Rattle.tier_laws.specs.Follows.{follows, followed-is}
use Rattle.tier_laws.proofs.tiers.a_turn_follows_one_rule.Goals as goal

pub returns-clause-follows : goal.returns-clause-follows
returns-clause-follows c = follows

pub returns-clause-only : goal.returns-clause-only
returns-clause-only c = followed-is

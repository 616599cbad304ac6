use Rattle.detail_laws.specs.AtRest.{rest-holds}
use Rattle.detail_laws.proofs.a_tier_at_rest_holds_what_is_wished.Goals as goal

pub returns : goal.returns
returns c = record { holds = rest-holds }

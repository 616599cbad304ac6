use Rattle.tier_laws.specs.SingleLaws.{single-turn}
use Rattle.tier_laws.proofs.tiers.one_patch_comes_at_a_time.Goals as goal

pub returns : goal.returns
returns c = single-turn

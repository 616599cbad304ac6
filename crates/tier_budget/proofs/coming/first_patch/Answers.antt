-- The first of them is the first of the list.
use Rattle.std.proofs.Common.{rules}
use Rattle.tier_budget.proofs.ComingWalks.{first_is_item}
use Rattle.tier_budget.proofs.coming.first_patch.Goals as goal

pub returns : goal.returns
returns c = rw (first_is_item c.args.coming.now) (search rules)

-- Those of other patches are left.
use Rattle.std.proofs.Common.{rules}
use Rattle.std.proofs.lemmas.Fn.{filter_same}
use Rattle.tier_budget.proofs.ComingWalks.{without_is_filter}
use Rattle.tier_budget.proofs.coming.take_out.Goals as goal

pub returns-clause-items : goal.returns-clause-items
returns-clause-items c = rw (without_is_filter c.args.patch c.args.coming.now.items) (filter_same _ _ _ (λ x b f' k. search rules) _ _ c.retain.ensures.filtered)

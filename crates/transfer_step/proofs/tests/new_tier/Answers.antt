-- The sizes are those that a tier begins with.
use Rattle.std.proofs.Common.{◌≡◌, Result, Ok, Err, IfOk, ap, sym}
use Rattle.file_model.specs.Lists.{IndexLists}
use Rattle.tier_model.specs.Tiers.{TierState, sizes_of}
use Rattle.tier_model.specs.Changes.{fresh}
use Rattle.tier_budget.specs.TierView.{TierSeen}
use Rattle.transfer_step.proofs.tests.new_tier.Goals as goal

has_sizes : {E : Type 0} (index : IndexLists) (budget width : _) (r : Result TierSeen E) → IfOk r (λ tier. tier.state ≡ fresh index budget width) → IfOk r (λ tier. sizes_of index ≡ tier.state.sizes)
unfolding fresh
has_sizes index budget width (Ok tier) is = sym (ap (λ (s : TierState). s.sizes) is)
has_sizes index budget width (Err e) is = tt

pub returns : goal.returns
returns c = has_sizes c.args.index.now c.args.budget c.args.width c.with_width.result c.with_width.ensures.state

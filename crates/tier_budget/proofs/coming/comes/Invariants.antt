-- Those before this one are of other patches.
use Rattle.std.proofs.Common.{◌≡◌, drop}
use Rattle.tier_model.specs.Places.{is_coming}
use Rattle.tier_budget.proofs.coming.comes.Given as goal

abbrev pub invariant-loop-one : goal.invariant-loop-one
invariant-loop-one l = is_coming l.coming l.patch ≡ is_coming (drop l.one-index l.coming) l.patch

-- Those before this one have their bodies.
use Rattle.std.proofs.Common.{◌≡◌, drop}
use Rattle.tier_model.specs.Places.{first_bare}
use Rattle.tier_budget.proofs.coming.first_without_body.Given as goal

abbrev pub invariant-loop-one : goal.invariant-loop-one
invariant-loop-one l = first_bare l.coming ≡ first_bare (drop l.one-index l.coming)

-- The patches before this one have no bodies.
use Rattle.std.proofs.Common.{◌≡◌, None, replicate}
use Rattle.tier_budget.specs.Heads.{bodies_in}
use Rattle.tier_budget.proofs.lists.no_bodies.Given as goal

abbrev pub invariant-loop-patch : goal.invariant-loop-patch
invariant-loop-patch l = bodies_in l.bodies.items ≡ replicate l._patch None

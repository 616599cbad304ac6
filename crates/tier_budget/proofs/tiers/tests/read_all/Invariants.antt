-- The store's files stay.
use Rattle.std.proofs.Common.{◌≡◌}
use Rattle.tier_budget.proofs.tiers.tests.read_all.Given as goal

abbrev pub invariant-loop-patch : goal.invariant-loop-patch
invariant-loop-patch g l = g.S.Store.files l.store ≡ g.S.Store.files l.initial.store

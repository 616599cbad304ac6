-- The listed patches before this one have their ranks.
use Rattle.std.proofs.Common.{false}
use Rattle.tier_budget.specs.Heads.{bodies_in}
use Rattle.tier_budget.specs.Heaps.{leaving_told, Refreshes}
use Rattle.tier_budget.proofs.leaving.put_back.Given as goal

abbrev pub invariant-loop-patch : goal.invariant-loop-patch
invariant-loop-patch l = Refreshes l.fn.leaving l.patch-index l.listed (leaving_told (bodies_in l.held) l.pinned false l.wishes) l.leaving

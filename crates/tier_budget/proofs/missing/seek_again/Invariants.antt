-- The listed patches before this one have their ranks.
use Rattle.std.proofs.Common.{false}
use Rattle.tier_budget.specs.Heads.{bodies_in}
use Rattle.tier_budget.specs.Heaps.{missing_told, Refreshes}
use Rattle.tier_budget.proofs.missing.seek_again.Given as goal

abbrev pub invariant-loop-patch : goal.invariant-loop-patch
invariant-loop-patch l = Refreshes l.fn.missing l.patch-index l.listed (missing_told l.wishes l.base (bodies_in l.held) l.coming false) l.missing

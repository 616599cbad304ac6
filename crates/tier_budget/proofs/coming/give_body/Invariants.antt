-- The bodies of the patch are there as far as this.
use Rattle.std.proofs.Common.{◌≡◌, ◌++◌, map, take, drop}
use Rattle.tier_budget.proofs.ComingWalks.{give}
use Rattle.tier_budget.proofs.coming.give_body.Given as goal

abbrev pub invariant-loop-one : goal.invariant-loop-one
invariant-loop-one l = l.coming ≡ map (give l.patch) (take l.one-index l.fn.coming) ++ drop l.one-index l.fn.coming

-- The count of the sums so far.
use Rattle.std.proofs.Common.{◌≡◌, length, take}
use Rattle.edge_chain.specs.Edges.{edge_cmp}
use Rattle.edge_chain.specs.Totals.{normal}
use Rattle.edge_chain.proofs.counts.recount_all.Given as goal

abbrev pub invariant-loop-at : goal.invariant-loop-at
invariant-loop-at l = l.count ≡ length (normal edge_cmp (take l.at l.sums))

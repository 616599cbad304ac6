-- The total of the sums so far.
use Rattle.std.proofs.Common.{◌≡◌, take}
use Rattle.edge_chain.specs.Edges.{edge_cmp}
use Rattle.edge_chain.specs.Totals.{total}
use Rattle.edge_chain.proofs.scans.total_of.Given as goal

abbrev pub invariant-loop-other : goal.invariant-loop-other
invariant-loop-other l = l.total ≡ total edge_cmp (take l.other-index l.sums) l.edge

-- The front is gathered, and what is left follows it.
use Rattle.std.proofs.Common.{◌≤◌, take, drop}
use Rattle.edge_chain.specs.Edges.{edge_cmp}
use Rattle.edge_chain.specs.Gathers.{Gathers}
use Rattle.edge_chain.proofs.gathers.gather_sorted.Given as goal

abbrev pub invariant-loop-at : goal.invariant-loop-at
invariant-loop-at l = record {
  front : l.kept ≤ l.at;
  gathers : Gathers edge_cmp (take l.kept l.sums) (drop l.at l.sums) l.fn.sums;
}

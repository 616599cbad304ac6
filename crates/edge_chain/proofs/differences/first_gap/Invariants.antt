-- What is left of the two lists has the gap of the whole lists.
use Rattle.std.proofs.Common.{◌≡◌, drop}
use Rattle.edge_chain.specs.Edges.{edge_cmp}
use Rattle.edge_chain.specs.Gaps.{first_gap}
use Rattle.edge_chain.proofs.differences.first_gap.Given as goal

abbrev pub invariant-loop-at : goal.invariant-loop-at
invariant-loop-at l = first_gap edge_cmp l.here l.there ≡ first_gap edge_cmp (drop l.at l.here) (drop l.at l.there)

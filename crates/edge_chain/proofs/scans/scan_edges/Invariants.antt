-- The best at the edges so far.
use Rattle.std.proofs.Common.{◌≡◌, take}
use Rattle.std.specs.List.{fold}
use Rattle.edge_chain.specs.Scans.{better}
use Rattle.edge_chain.proofs.scans.scan_edges.Given as goal

abbrev pub invariant-loop-edge : goal.invariant-loop-edge
invariant-loop-edge l = l.best ≡ fold (λ b e. better l.here l.there b e.0) l.fn.best (take l.edge-index l.edges)

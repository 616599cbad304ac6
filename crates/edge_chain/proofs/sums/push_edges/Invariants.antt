-- What the edges so far add stands behind what was there, and there is room for the rest.
use Rattle.std.proofs.Common.{◌≡◌, ◌+◌, ◌-◌, ◌≤◌, ◌++◌, length, take, vec_len}
use Rattle.std.specs.Prelude.{vec_capacity}
use Rattle.edge_chain.specs.Sums.{sums_of}
use Rattle.edge_chain.proofs.sums.push_edges.Given as goal

abbrev pub invariant-loop-edge : goal.invariant-loop-edge
invariant-loop-edge l = record {
  items : l.sums.items ≡ l.fn.sums.items ++ sums_of (take l.edge-index l.edges);
  room : vec_len l.sums + (length l.edges - l.edge-index) ≤ vec_capacity l.sums;
}

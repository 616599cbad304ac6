-- A scan for the least difference of two lists of sums.
use Rattle.std.specs.Prelude.{Bool, false, not, cond, List, ℤ, Option, Some, None}
use Rattle.std.specs.Ordering.{is_lt, int_eq}
use Rattle.edge_chain.specs.declared.edges.Edge.{Edge}
use Rattle.edge_chain.specs.declared.differences.Difference.{Difference}
use Rattle.edge_chain.specs.Edges.{edge_cmp}
use Rattle.edge_chain.specs.Totals.{total}
use Rattle.edge_chain.specs.Differences.{difference_at, edge_at}

-- the edge doesn't come before the best so far
abbrev pub is_late : Option Difference → Edge → Bool
is_late None edge = false
is_late (Some best) edge = not (is_lt (edge_cmp edge (edge_at best)))

-- the difference at an edge, where there is one and it comes before the best so far; else that
abbrev pub better : List (Edge × ℤ) → List (Edge × ℤ) → Option Difference → Edge → Option Difference
better here there best edge = cond (is_late best edge) best (cond (int_eq (total edge_cmp here edge) (total edge_cmp there edge)) best (Some (difference_at edge (total edge_cmp here edge) (total edge_cmp there edge))))

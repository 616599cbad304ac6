-- Differences of two lists of sums.
use Rattle.std.specs.Prelude.{◌≡◌, ◌≢◌, true, List, ℤ, Option, MatchOption}
use Rattle.std.specs.Ordering.{is_lt}
use Rattle.edge_chain.specs.declared.edges.Edge.{Edge}
use Rattle.edge_chain.specs.declared.differences.Difference.{Difference}
use Rattle.edge_chain.specs.Edges.{edge_cmp}
use Rattle.edge_chain.specs.Gaps.{Gap}
use Rattle.edge_chain.specs.Totals.{total}

abbrev pub difference_at : Edge → ℤ → ℤ → Difference
difference_at edge here there = record { a = edge.a; b = edge.b; here = here; there = there }

-- a gap, by its edge's points
abbrev pub difference_of : Gap Edge → Difference
difference_of gap = difference_at gap.0 gap.1 gap.2

abbrev pub edge_at : Difference → Edge
edge_at difference = record { a = difference.a; b = difference.b }

-- the least edge whose totals differ, with both
pub record IsFirst (here there : List (Edge × ℤ)) (difference : Difference) : Type 0 where
  pub here_is : total edge_cmp here (edge_at difference) ≡ difference.here
  pub there_is : total edge_cmp there (edge_at difference) ≡ difference.there
  pub differs : difference.here ≢ difference.there
  pub least : (q : Edge) → is_lt (edge_cmp q (edge_at difference)) ≡ true → total edge_cmp here q ≡ total edge_cmp there q

-- the first difference, if any total differs
abbrev pub Finds : List (Edge × ℤ) → List (Edge × ℤ) → Option Difference → Type 0
Finds here there found = MatchOption found ((q : Edge) → total edge_cmp here q ≡ total edge_cmp there q) (IsFirst here there)

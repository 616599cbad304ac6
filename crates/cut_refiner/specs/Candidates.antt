-- Candidates, and which of two is tried first.
use Rattle.std.specs.Prelude.{◌≡◌, ℕ, ◌==◌, Bool, false, ◌&&◌, ◌||◌, nat_lt, List}
use Rattle.std.specs.List.{AllByRecursion}
use Rattle.std.specs.Ordering.{nat_cmp, ordering_then}
use Rattle.std.specs.declared.cmp.Ordering.{Ordering}
use Rattle.cut_refiner.specs.declared.candidates.Candidate.{Candidate}

-- the candidates in no particular order, and for how many there is room
pub record Waiting : Type 0 where
  pub items : List Candidate
  pub room : ℕ

-- by the score, then the lesser level, then the lesser number
abbrev pub candidate_order : Candidate → Candidate → Ordering
candidate_order a b = ordering_then (nat_cmp a.score b.score) (ordering_then (nat_cmp b.level.0 a.level.0) (nat_cmp b.node.0 a.node.0))

-- the one is tried before the other
abbrev pub is_tried_before : Candidate → Candidate → Bool
is_tried_before a b = nat_lt b.score a.score || ((a.score == b.score) && (nat_lt a.level.0 b.level.0 || ((a.level.0 == b.level.0) && nat_lt a.node.0 b.node.0)))

-- none is tried before it
abbrev pub IsFirst : Candidate → List Candidate → Type 0
IsFirst first candidates = AllByRecursion (λ other. is_tried_before other first ≡ false) candidates

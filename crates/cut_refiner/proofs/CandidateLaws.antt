-- Which candidate is tried first.
use Rattle.std.proofs.Common.{◌≡◌, ℕ, false, ◌&&◌, ◌||◌, ltb, eqb, List, [], length, Option, Some, None, sym, subst, ◌∙◌, arith, refl}
use Rattle.std.specs.Prelude.{MatchOption, IfSome, IfNone}
use Rattle.std.specs.Ordering.{is_lt, nat_cmp, ordering_then}
use Rattle.std.specs.BinaryHeap.{IsHeap, IsUpperBound, PopsGreatest}
use Rattle.std.proofs.lemmas.Bool.Decides.{nat_tests}
use Rattle.std.proofs.lemmas.List.{nil_from_length}
use Rattle.round_model.specs.Order.{Rules, comes_before}
use Rattle.mesh_laws.specs.Each.{each_then}
use Rattle.cut_refiner.specs.declared.candidates.Candidate.{Candidate}
use Rattle.cut_refiner.specs.Candidates.{candidate_order, is_tried_before, IsFirst}
use Rattle.cut_refiner.specs.RefinementStates.{IsCandidate}

order_tells : (a x b y c z : ℕ) → is_lt (ordering_then (nat_cmp a x) (ordering_then (nat_cmp y b) (nat_cmp z c))) ≡ (ltb a x || (eqb x a && (ltb y b || (eqb y b && ltb z c))))
order_tells a x b y c z = grind (arith, nat_tests)

none_before : (first other : Candidate) → is_lt (candidate_order first other) ≡ false → is_tried_before other first ≡ false
none_before first other h = sym (order_tells first.score other.score first.level.0 other.level.0 first.node.0 other.node.0) ∙ h

first_of_bound : (first : Candidate) (items : List Candidate) → IsUpperBound candidate_order first items → IsFirst first items
first_of_bound first items h = each_then (λ other. is_lt (candidate_order first other) ≡ false) (λ other. is_tried_before other first ≡ false) items (none_before first) h

-- what the heap gives is tried first
pub popped_first : (r : Option Candidate) (old new seen : List Candidate) (n m : ℕ) → n ≡ length old → old ≡ seen → IsHeap candidate_order old → IfSome r (λ x. PopsGreatest candidate_order old x new) → IfNone r (n ≡ 0) → IfNone r ((new ≡ old) × (m ≡ n)) → MatchOption r (new ≡ []) (λ first. IsFirst first seen)
popped_first None old new seen n m len same heap greatest empty stays = stays.0 ∙ nil_from_length old (sym len ∙ empty)
popped_first (Some first) old new seen n m len same heap greatest empty stays = subst (IsFirst first) same (first_of_bound first old (greatest heap).1)

-- candidates stand in the order of their nodes
pub nodes_in_order : (rules : Rules) (a b : Candidate) → IsCandidate rules a → IsCandidate rules b → is_tried_before a b ≡ comes_before rules a.node.0 b.node.0
nodes_in_order rules a b is_a is_b = rw (is_a.scored, is_b.scored, is_a.levelled, is_b.levelled) refl

-- The nodes that were taken so far aren't tried.
use Rattle.std.proofs.Common.{◌≡◌, ℕ, List, length}
use Rattle.cut_refiner.specs.RefinementStates.{IsGoing}
use Rattle.cut_refiner.proofs.RefinementStateLaws.{IsLeft}
use Rattle.cut_refiner.proofs.refinement_states.RefinementState.next.Given as goal

abbrev pub invariant-loop-candidate : goal.invariant-loop-candidate
invariant-loop-candidate l = record {
  growing : l.self.growing ≡ l.initial.self.growing;
  left : (rest : List ℕ) → IsGoing l.rules rest l.initial.self → IsLeft l.rules rest l.self;
}

abbrev pub decreases-loop-candidate : goal.decreases-loop-candidate
decreases-loop-candidate l = length l.self.candidates.items

-- What one answer adds to what a journal counts up to.
use Rattle.std.proofs.Common.{◌≡◌, ℕ, ◌≤◌, List, true, false, refl, arith}
use Rattle.file_model.specs.declared.faults.FileFault.{FileFault}
use Rattle.view_outside.specs.Faults.{Rose, RoseBy}
use Rattle.view_outside.specs.Taken.{taken_after, RisesAtMost}
use Rattle.tier_model.specs.declared.turns.Turn.{Turn}
use Rattle.tier_model.specs.declared.turns.Turn.TheVariants.{Reserve, Evict, Kept, Got, Lost, Fault, Changed, Commit, Idle}
use Rattle.tier_model.specs.Answers.{IfLost, IfFault, IfChanged}
use Rattle.tier_model.specs.Counts.{bytes_got, is_fault, is_lost, is_change}
use Rattle.transfer_step.specs.TurnWords.{TurnTakes}

-- the store's count of faults rose with each answer that it failed
pub fault_rises : (answer : Turn) (before now : ℕ) → IfFault answer (λ _. Rose before now) → before ≤ now
    → RoseBy (is_fault answer) before now
unfolding is_fault
fault_rises (Fault p) before now rose later = rose
fault_rises (Reserve p) before now rose later = omega arith
fault_rises (Evict p) before now rose later = omega arith
fault_rises (Kept p uses) before now rose later = omega arith
fault_rises (Got p) before now rose later = omega arith
fault_rises (Lost p) before now rose later = omega arith
fault_rises (Changed p fault) before now rose later = omega arith
fault_rises (Commit p) before now rose later = omega arith
fault_rises Idle before now rose later = omega arith

pub never_fails : (answer : Turn) → IfFault answer (λ _. ⊥) → is_fault answer ≡ 0
unfolding is_fault
never_fails (Fault p) fails = absurd fails
never_fails (Reserve p) fails = refl
never_fails (Evict p) fails = refl
never_fails (Kept p uses) fails = refl
never_fails (Got p) fails = refl
never_fails (Lost p) fails = refl
never_fails (Changed p fault) fails = refl
never_fails (Commit p) fails = refl
never_fails Idle fails = refl

-- what has every patch loses none
pub never_loses : (answer : Turn) → IfLost answer (λ _. true ≡ false) → is_lost answer ≡ 0
unfolding is_lost
never_loses (Lost p) lost = absurd (let e : true ≡ false = lost in cc)
never_loses (Reserve p) lost = refl
never_loses (Evict p) lost = refl
never_loses (Kept p uses) lost = refl
never_loses (Got p) lost = refl
never_loses (Fault p) lost = refl
never_loses (Changed p fault) lost = refl
never_loses (Commit p) lost = refl
never_loses Idle lost = refl

-- where no body of the file has a fault, none is found to have changed
pub never_changes : (finds : ℕ → FileFault → Type 0) (answer : Turn) → ((p : ℕ) (fault : FileFault) → finds p fault → ⊥)
    → IfChanged answer finds → is_change answer ≡ 0
unfolding is_change
never_changes finds (Changed p fault) none changed = absurd (none p fault changed)
never_changes finds (Reserve p) none changed = refl
never_changes finds (Evict p) none changed = refl
never_changes finds (Kept p uses) none changed = refl
never_changes finds (Got p) none changed = refl
never_changes finds (Lost p) none changed = refl
never_changes finds (Fault p) none changed = refl
never_changes finds (Commit p) none changed = refl
never_changes finds Idle none changed = refl

pub rises_later : (before now most : ℕ) → RisesAtMost before now most → before ≤ now
rises_later before now most rises = let sum = rises.sum in omega arith

-- the count of bytes taken rose by at least the body that came
pub takes_body : (sizes : List ℕ) (answer : Turn) (before now : ℕ) → TurnTakes sizes answer before now
    → taken_after before (bytes_got sizes answer) ≤ now
unfolding bytes_got
takes_body sizes (Got p) before now takes = omega arith
takes_body sizes (Fault p) before now takes = let later = rises_later before now _ takes in omega arith
takes_body sizes (Changed p fault) before now takes = let later = rises_later before now _ takes in omega arith
takes_body sizes (Reserve p) before now takes = omega arith
takes_body sizes (Evict p) before now takes = omega arith
takes_body sizes (Kept p uses) before now takes = omega arith
takes_body sizes (Lost p) before now takes = omega arith
takes_body sizes (Commit p) before now takes = omega arith
takes_body sizes Idle before now takes = omega arith

-- What follows of a turn's answer from what is known of it.
use Rattle.std.proofs.Common.{ℕ, Result, Ok, Err, IfOk}
use Rattle.file_model.specs.declared.faults.FileFault.{FileFault}
use Rattle.tier_model.specs.declared.turns.Turn.{Turn}
use Rattle.tier_model.specs.declared.turns.Turn.TheVariants.{Reserve, Evict, Kept, Got, Lost, Fault, Changed, Commit, Idle}
use Rattle.tier_model.specs.Answers.{IfGot, IfFault, IfChanged}

pub got_more : (P Q : ℕ → Type 0) → ((p : ℕ) → P p → Q p) → (answer : Turn) → IfGot answer P → IfGot answer Q
got_more P Q more (Got p) got = more p got
got_more P Q more (Reserve p) got = tt
got_more P Q more (Evict p) got = tt
got_more P Q more (Kept p uses) got = tt
got_more P Q more (Lost p) got = tt
got_more P Q more (Fault p) got = tt
got_more P Q more (Changed p fault) got = tt
got_more P Q more (Commit p) got = tt
got_more P Q more Idle got = tt

pub result_got_more : {E : Type 0} (P Q : ℕ → Type 0) → ((p : ℕ) → P p → Q p) → (result : Result Turn E) → IfOk result (λ answer. IfGot answer P) → IfOk result (λ answer. IfGot answer Q)
result_got_more P Q more (Ok answer) got = got_more P Q more answer got
result_got_more P Q more (Err e) got = tt

fault_more : (P Q : ℕ → Type 0) → ((p : ℕ) → P p → Q p) → (answer : Turn) → IfFault answer P → IfFault answer Q
fault_more P Q more (Fault p) is = more p is
fault_more P Q more (Reserve p) is = tt
fault_more P Q more (Evict p) is = tt
fault_more P Q more (Kept p uses) is = tt
fault_more P Q more (Got p) is = tt
fault_more P Q more (Lost p) is = tt
fault_more P Q more (Changed p fault) is = tt
fault_more P Q more (Commit p) is = tt
fault_more P Q more Idle is = tt

changed_more : (P Q : ℕ → FileFault → Type 0) → ((p : ℕ) (fault : FileFault) → P p fault → Q p fault) → (answer : Turn) → IfChanged answer P → IfChanged answer Q
changed_more P Q more (Changed p fault) is = more p fault is
changed_more P Q more (Reserve p) is = tt
changed_more P Q more (Evict p) is = tt
changed_more P Q more (Kept p uses) is = tt
changed_more P Q more (Got p) is = tt
changed_more P Q more (Lost p) is = tt
changed_more P Q more (Fault p) is = tt
changed_more P Q more (Commit p) is = tt
changed_more P Q more Idle is = tt

pub result_fault_more : {E : Type 0} (P Q : ℕ → Type 0) → ((p : ℕ) → P p → Q p) → (result : Result Turn E) → IfOk result (λ answer. IfFault answer P) → IfOk result (λ answer. IfFault answer Q)
result_fault_more P Q more (Ok answer) is = fault_more P Q more answer is
result_fault_more P Q more (Err e) is = tt

pub result_changed_more : {E : Type 0} (P Q : ℕ → FileFault → Type 0) → ((p : ℕ) (fault : FileFault) → P p fault → Q p fault) → (result : Result Turn E) → IfOk result (λ answer. IfChanged answer P) → IfOk result (λ answer. IfChanged answer Q)
result_changed_more P Q more (Ok answer) is = changed_more P Q more answer is
result_changed_more P Q more (Err e) is = tt

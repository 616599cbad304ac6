-- What holds of the answer of a turn, if it is of a kind.
use Rattle.std.specs.Prelude.{ℕ}
use Rattle.file_model.specs.declared.faults.FileFault.{FileFault}
use Rattle.tier_model.specs.declared.turns.Turn.{Turn}
use Rattle.tier_model.specs.declared.turns.Turn.TheVariants.{Reserve, Evict, Kept, Got, Lost, Fault, Changed, Commit, Idle}

-- of the patch whose body came
abbrev pub IfGot : Turn → (ℕ → Type 0) → Type 0
IfGot (Got p) P = P p
IfGot (Reserve p) P = Unit {0}
IfGot (Evict p) P = Unit {0}
IfGot (Kept p uses) P = Unit {0}
IfGot (Lost p) P = Unit {0}
IfGot (Fault p) P = Unit {0}
IfGot (Changed p fault) P = Unit {0}
IfGot (Commit p) P = Unit {0}
IfGot Idle P = Unit {0}

-- of the patch that the tier below doesn't hold
abbrev pub IfLost : Turn → (ℕ → Type 0) → Type 0
IfLost (Lost p) P = P p
IfLost (Reserve p) P = Unit {0}
IfLost (Evict p) P = Unit {0}
IfLost (Kept p uses) P = Unit {0}
IfLost (Got p) P = Unit {0}
IfLost (Fault p) P = Unit {0}
IfLost (Changed p fault) P = Unit {0}
IfLost (Commit p) P = Unit {0}
IfLost Idle P = Unit {0}

-- of the patch at which the store failed
abbrev pub IfFault : Turn → (ℕ → Type 0) → Type 0
IfFault (Fault p) P = P p
IfFault (Reserve p) P = Unit {0}
IfFault (Evict p) P = Unit {0}
IfFault (Kept p uses) P = Unit {0}
IfFault (Got p) P = Unit {0}
IfFault (Lost p) P = Unit {0}
IfFault (Changed p fault) P = Unit {0}
IfFault (Commit p) P = Unit {0}
IfFault Idle P = Unit {0}

-- of the patch under which the file has changed, and its fault
abbrev pub IfChanged : Turn → (ℕ → FileFault → Type 0) → Type 0
IfChanged (Changed p fault) P = P p fault
IfChanged (Reserve p) P = Unit {0}
IfChanged (Evict p) P = Unit {0}
IfChanged (Kept p uses) P = Unit {0}
IfChanged (Got p) P = Unit {0}
IfChanged (Lost p) P = Unit {0}
IfChanged (Fault p) P = Unit {0}
IfChanged (Commit p) P = Unit {0}
IfChanged Idle P = Unit {0}

-- of the patch that is held from now on
abbrev pub IfCommit : Turn → (ℕ → Type 0) → Type 0
IfCommit (Commit p) P = P p
IfCommit (Reserve p) P = Unit {0}
IfCommit (Evict p) P = Unit {0}
IfCommit (Kept p uses) P = Unit {0}
IfCommit (Got p) P = Unit {0}
IfCommit (Lost p) P = Unit {0}
IfCommit (Fault p) P = Unit {0}
IfCommit (Changed p fault) P = Unit {0}
IfCommit Idle P = Unit {0}

-- of the patch that left
abbrev pub IfEvict : Turn → (ℕ → Type 0) → Type 0
IfEvict (Evict p) P = P p
IfEvict (Reserve p) P = Unit {0}
IfEvict (Kept p uses) P = Unit {0}
IfEvict (Got p) P = Unit {0}
IfEvict (Lost p) P = Unit {0}
IfEvict (Fault p) P = Unit {0}
IfEvict (Changed p fault) P = Unit {0}
IfEvict (Commit p) P = Unit {0}
IfEvict Idle P = Unit {0}

-- of the patch that was kept, and its uses
abbrev pub IfKept : Turn → (ℕ → ℕ → Type 0) → Type 0
IfKept (Kept p uses) P = P p uses
IfKept (Reserve p) P = Unit {0}
IfKept (Evict p) P = Unit {0}
IfKept (Got p) P = Unit {0}
IfKept (Lost p) P = Unit {0}
IfKept (Fault p) P = Unit {0}
IfKept (Changed p fault) P = Unit {0}
IfKept (Commit p) P = Unit {0}
IfKept Idle P = Unit {0}

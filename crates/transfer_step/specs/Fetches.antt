-- What holds of what a fetch gave, if it is of a kind.
use Rattle.std.specs.Prelude.{◌≡◌, ℕ, Bool, true, false, Result, Ok, Err}
use Rattle.std.specs.Arc.{arc_value}
use Rattle.file_model.specs.declared.faults.FileFault.{FileFault}
use Rattle.file_model.specs.Lists.{SeenBody}
use Rattle.view_outside.specs.Taken.{taken_after, RisesAtMost}
use Rattle.transfer_step.specs.declared.fetches.Fetch.{Fetch}
use Rattle.transfer_step.specs.declared.fetches.Fetch.TheVariants.{Body, Lost, Fault, Changed}

-- whether the patch isn't there
abbrev pub is_lost : Fetch → Bool
is_lost Lost = true
is_lost (Body body) = false
is_lost Fault = false
is_lost (Changed fault) = false

-- of the body
abbrev pub IfBody : Fetch → (SeenBody → Type 0) → Type 0
IfBody (Body body) P = P (arc_value body)
IfBody Lost P = Unit {0}
IfBody Fault P = Unit {0}
IfBody (Changed fault) P = Unit {0}

-- where the store failed
abbrev pub IfFault : Fetch → Type 0 → Type 0
IfFault Fault P = P
IfFault (Body body) P = Unit {0}
IfFault Lost P = Unit {0}
IfFault (Changed fault) P = Unit {0}

-- of the fault that was found
abbrev pub IfChanged : Fetch → (FileFault → Type 0) → Type 0
IfChanged (Changed fault) P = P fault
IfChanged (Body body) P = Unit {0}
IfChanged Lost P = Unit {0}
IfChanged Fault P = Unit {0}

-- a body takes exactly its size, a patch that isn't there nothing, and any other answer at most that size
abbrev pub FetchTakes : ℕ → Fetch → ℕ → ℕ → Type 0
FetchTakes size (Body body) before now = now ≡ taken_after before size
FetchTakes size Lost before now = now ≡ before
FetchTakes size Fault before now = RisesAtMost before now size
FetchTakes size (Changed fault) before now = RisesAtMost before now size

-- the same, and without memory at most that size
abbrev pub TakesUpTo : {E : Type 0} → ℕ → Result Fetch E → ℕ → ℕ → Type 0
TakesUpTo size (Ok fetch) before now = FetchTakes size fetch before now
TakesUpTo size (Err e) before now = RisesAtMost before now size

-- The fault that ends a reading.
use Rattle.std.specs.Prelude.{ℕ, not, nat_lt, Result, Ok, Err, Option, Some, None, if◌then◌else◌}
use Rattle.file_model.specs.declared.faults.FileFault.{FileFault}
use Rattle.file_model.specs.declared.faults.FileFault.TheVariants.{CornerIndex}
use Rattle.file_model.specs.Lists.{Corners}

-- the fault, and none where all was read
abbrev pub fault_of : {A : Type 0} → Result A FileFault → Option FileFault
fault_of (Ok x) = None
fault_of (Err fault) = Some fault

-- the fault of triangle k at its first corner that isn't below the number of points
abbrev pub corner_fault : ℕ → ℕ → ℕ → Corners → Option FileFault
corner_fault patch count k t =
    if not (nat_lt t.a count) then Some (CornerIndex patch k t.a) else
    if not (nat_lt t.b count) then Some (CornerIndex patch k t.b) else
    if not (nat_lt t.c count) then Some (CornerIndex patch k t.c) else None

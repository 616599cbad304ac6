-- Which faults the bytes of one body can have.
use Rattle.std.specs.Prelude.{◌≡◌, ℕ}
use Rattle.file_model.specs.declared.faults.FileFault.{FileFault}
use Rattle.file_model.specs.Answers.{IsNotFault}
use Rattle.file_model.specs.declared.refusals.ReadRefusal.{ReadRefusal}
use Rattle.file_model.specs.declared.refusals.ReadRefusal.TheVariants.{File, ReadFault, Memory}
use Rattle.file_model.specs.declared.faults.FileFault.TheVariants.{Truncated, PointOutOfGrid, CornerIndex, Flat, Loose}

-- the bytes of this patch's body end early, or one of its points or triangles breaks its rule
abbrev pub IsBodyFault : ℕ → FileFault → Type 0
IsBodyFault patch (Truncated end) = Unit {0}
IsBodyFault patch (PointOutOfGrid of point) = of ≡ patch
IsBodyFault patch (CornerIndex of triangle corner) = of ≡ patch
IsBodyFault patch (Flat of triangle) = of ≡ patch
IsBodyFault patch (Loose of axis) = of ≡ patch
IsBodyFault patch fault = ⊥

-- where a read of this patch's body tells a fault, it is one that the body can have
abbrev pub RefusesBody : ℕ → ReadRefusal → Type 0
RefusesBody patch (File fault) = IsBodyFault patch fault
RefusesBody patch ReadFault = Unit {0}
RefusesBody patch Memory = Unit {0}

-- what tells no fault tells none that the body can't have
pub no_fault-body : (patch : ℕ) (refusal : ReadRefusal) → IsNotFault refusal → RefusesBody patch refusal
no_fault-body patch (File fault) none = absurd none
no_fault-body patch ReadFault none = tt
no_fault-body patch Memory none = tt

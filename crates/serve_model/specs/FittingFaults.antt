-- Faults of a file whose numbers are of their types.
use Rattle.std.specs.Prelude.{◌≡◌, ℕ, ◌^◌, Bool, true, ◌&&◌, nat_lt}
use Rattle.file_model.specs.declared.faults.FileFault.{FileFault}
use Rattle.file_model.specs.declared.faults.FileFault.TheVariants.{Magic, Version, NotZero, NodeCount, PatchCount, Truncated, Trailing, NodeOutOfGrid, ArcEnd, BodyCount, PointOutOfGrid, CornerIndex, Flat, Loose}
use Rattle.tier_model.specs.declared.turns.Turn.{Turn}
use Rattle.tier_model.specs.Answers.{IfChanged}

-- whether a number has so many bits at most
abbrev pub has_bits : ℕ → ℕ → Bool
has_bits bits n = nat_lt n (2 ^ bits)

-- whether each argument of a fault is of its type
abbrev pub is_fitting : FileFault → Bool
is_fitting Magic = true
is_fitting (Version found) = has_bits 16 found
is_fitting NotZero = true
is_fitting (NodeCount count) = has_bits 32 count
is_fitting (PatchCount count) = has_bits 32 count
is_fitting (Truncated end) = has_bits 64 end
is_fitting (Trailing end) = has_bits 64 end
is_fitting (NodeOutOfGrid node) = has_bits 32 node
is_fitting (ArcEnd patch) = has_bits 32 patch
is_fitting (BodyCount patch) = has_bits 32 patch
is_fitting (PointOutOfGrid patch point) = has_bits 32 patch && has_bits 32 point
is_fitting (CornerIndex patch triangle corner) = has_bits 32 patch && has_bits 32 triangle && has_bits 32 corner
is_fitting (Flat patch triangle) = has_bits 32 patch && has_bits 32 triangle
is_fitting (Loose patch axis) = has_bits 32 patch && has_bits 32 axis

-- the fault that a turn tells, if it tells one, is one that can be
abbrev pub IsFitting : Turn → Type 0
IsFitting answer = IfChanged answer (λ p fault. is_fitting fault ≡ true)

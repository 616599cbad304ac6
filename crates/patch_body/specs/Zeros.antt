-- The axes on which an offset of a body of version 2 is 0.
use Rattle.std.specs.Prelude.{ℕ, List, [], ◌∷◌, Result, Ok, Err, Option, Some, None, not, false, ◌||◌, if◌then◌else◌}
use Rattle.std.specs.Ordering.{int_eq}
use Rattle.grid_vertex.specs.declared.points.Point.{Point}
use Rattle.file_model.specs.declared.faults.FileFault.{FileFault}
use Rattle.file_model.specs.declared.faults.FileFault.TheVariants.{Loose}
use Rattle.patch_body.specs.declared.zeros.Zeros.{Zeros}

-- the axes on which a point has the origin's coordinate
abbrev pub zeros_at : Point → Point → Zeros
zeros_at origin p = record { x = int_eq p.x origin.x; y = int_eq p.y origin.y; z = int_eq p.z origin.z }

-- the axes of either
abbrev pub either : Zeros → Zeros → Zeros
either a b = record { x = a.x || b.x; y = a.y || b.y; z = a.z || b.z }

-- the axes that were seen before, and those of the points
unfoldable pub zeros_with : Zeros → Point → List Point → Zeros
zeros_with seen origin [] = seen
zeros_with seen origin (p ∷ ps) = zeros_with (either seen (zeros_at origin p)) origin ps

abbrev pub no_axis : Zeros
no_axis = record { x = false; y = false; z = false }

-- the fault of a body of which only these axes have an offset 0
abbrev pub loose_fault : ℕ → Zeros → Option FileFault
loose_fault patch zeros =
    if not zeros.x then Some (Loose patch 0) else
    if not zeros.y then Some (Loose patch 1) else
    if not zeros.z then Some (Loose patch 2) else None

-- the fault of reading points, or else that of their axes with those that were seen before
abbrev pub fault_with : Zeros → Point → ℕ → Result (List Point × List ℕ) FileFault → Option FileFault
fault_with seen origin patch (Ok points) = loose_fault patch (zeros_with seen origin points.0)
fault_with seen origin patch (Err fault) = Some fault

use Rattle.std.proofs.Common.{◌≡◌, ◌-◌, drop}
use Rattle.file_model.specs.Reading.{triangle_at, many_at}
use Rattle.patch_body.specs.Places.{points_read, points_size}
use Rattle.patch_body.specs.Faults.{fault_of}
use Rattle.patch_body.proofs.checking.check_triangles.Given as goal

abbrev pub invariant-loop-k : goal.invariant-loop-k
invariant-loop-k l =
    let unit = triangle_at (points_read l.version l.field.points l.source.patch l.source.end l.bytes) l.source.patch l.source.end in
    fault_of (many_at unit (l.field.triangles - l.k) l.k l.rest) ≡ fault_of (many_at unit l.field.triangles 0 (drop (points_size l.version l.field.points) l.bytes))

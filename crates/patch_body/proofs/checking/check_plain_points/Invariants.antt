use Rattle.std.proofs.Common.{◌≡◌, ◌-◌}
use Rattle.file_model.specs.Reading.{point_at, many_at}
use Rattle.patch_body.specs.Faults.{fault_of}
use Rattle.patch_body.proofs.checking.check_plain_points.Given as goal

abbrev pub invariant-loop-k : goal.invariant-loop-k
invariant-loop-k l =
    let unit = point_at l.source.patch l.source.end in
    fault_of (many_at unit (l.count - l.k) l.k l.rest) ≡ fault_of (many_at unit l.count 0 l.bytes)

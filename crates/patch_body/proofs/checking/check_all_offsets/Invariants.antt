use Rattle.std.proofs.Common.{◌≡◌, ◌-◌}
use Rattle.file_model.specs.Reading.{shifted_at, many_at}
use Rattle.patch_body.specs.Zeros.{fault_with, no_axis}
use Rattle.patch_body.proofs.checking.check_all_offsets.Given as goal

abbrev pub invariant-loop-k : goal.invariant-loop-k
invariant-loop-k l =
    let unit = shifted_at l.origin l.source.patch l.source.end in
    fault_with l.seen l.origin l.source.patch (many_at unit (l.count - l.k) l.k l.rest) ≡ fault_with no_axis l.origin l.source.patch (many_at unit l.count 0 l.bytes)

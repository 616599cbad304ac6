use Rattle.std.proofs.Common.{◌≡◌, ◌-◌}
use Rattle.file_model.specs.Reading.{field_at, many_at}
use Rattle.patch_file.proofs.Many.{with_front}
use Rattle.patch_file.proofs.fields.fields_of.Given as goal

abbrev pub invariant-loop-patch : goal.invariant-loop-patch
invariant-loop-patch l = with_front l.fields.items (many_at (field_at l.fn.nodes l.end) (l.count - l.patch) l.patch l.rest) ≡ many_at (field_at l.fn.nodes l.end) l.count 0 l.bytes

use Rattle.std.proofs.Common.{◌≤◌, take}
use Rattle.std.specs.List.{flat_map}
use Rattle.file_model.specs.Spelling.{field_text}
use Rattle.patch_file.specs.Batches.{Sent}
use Rattle.patch_file.proofs.writing.add_fields.Given as goal

abbrev pub invariant-loop-field : goal.invariant-loop-field
invariant-loop-field g l = record {
  text : Sent (g.O.Sink.written l.initial.sink) (g.O.Sink.written l.sink) l.initial.batch l.batch (flat_map field_text (take l.field-index l.fields));
  later : g.O.Sink.faults l.initial.sink ≤ g.O.Sink.faults l.sink;
}

use Rattle.std.proofs.Common.{◌≤◌, take}
use Rattle.std.specs.List.{flat_map}
use Rattle.file_model.specs.Lists.{SeenBody}
use Rattle.patch_file.specs.Batches.{Sent}
use Rattle.patch_file.proofs.writing.add_bodies.Given as goal

abbrev pub invariant-loop-body : goal.invariant-loop-body
invariant-loop-body g l = record {
  text : Sent (g.O.Sink.written l.initial.sink) (g.O.Sink.written l.sink) l.initial.batch l.batch (flat_map (λ (b : SeenBody). b.bytes) (take l.body-index l.bodies));
  later : g.O.Sink.faults l.initial.sink ≤ g.O.Sink.faults l.sink;
}

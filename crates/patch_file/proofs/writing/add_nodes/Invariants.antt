use Rattle.std.proofs.Common.{◌≤◌, take}
use Rattle.std.specs.List.{flat_map}
use Rattle.file_model.specs.Spelling.{node_text}
use Rattle.patch_file.specs.Batches.{Sent}
use Rattle.patch_file.proofs.writing.add_nodes.Given as goal

abbrev pub invariant-loop-node : goal.invariant-loop-node
invariant-loop-node g l = record {
  text : Sent (g.O.Sink.written l.initial.sink) (g.O.Sink.written l.sink) l.initial.batch l.batch (flat_map node_text (take l.node-index l.nodes));
  later : g.O.Sink.faults l.initial.sink ≤ g.O.Sink.faults l.sink;
}

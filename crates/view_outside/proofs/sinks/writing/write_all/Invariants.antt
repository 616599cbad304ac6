use Rattle.std.proofs.Common.{◌≡◌, ◌-◌, ◌≤◌, length, take}
use Rattle.view_outside.specs.Streams.{appended}
use Rattle.view_outside.proofs.sinks.writing.write_all.Given as goal

abbrev pub invariant-loop-written : goal.invariant-loop-written
invariant-loop-written g l = record {
  within : l.written ≤ length l.bytes;
  text : g.O.Sink.written l.sink ≡ appended (g.O.Sink.written l.initial.sink) (take l.written l.bytes);
  later : g.O.Sink.faults l.initial.sink ≤ g.O.Sink.faults l.sink;
}

abbrev pub decreases-loop-written : goal.decreases-loop-written
decreases-loop-written g l = length l.bytes - l.written

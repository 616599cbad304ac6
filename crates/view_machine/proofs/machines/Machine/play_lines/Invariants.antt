-- The lines so far were played, and the store and the sink failed no less often than before.
use Rattle.std.proofs.Common.{◌≡◌, ◌≤◌}
use Rattle.view_machine.specs.RunLines.{PlaysTo}
use Rattle.view_machine.proofs.machines.Machine.play_lines.Given as goal

abbrev pub invariant-plays : goal.invariant-plays
invariant-plays g l = record {
  plays : PlaysTo l.fn.self l.self l.lines l.line-index (g.S.Store.faults l.fn.self.chain.store) (g.S.Store.faults l.self.chain.store) (g.S.Store.taken l.fn.self.chain.store) (g.S.Store.taken l.self.chain.store) (g.O.Sink.written l.fn.sink) (g.O.Sink.written l.sink);
  files : g.S.Store.files l.self.chain.store ≡ g.S.Store.files l.fn.self.chain.store;
  later : g.S.Store.faults l.fn.self.chain.store ≤ g.S.Store.faults l.self.chain.store;
  sink : g.O.Sink.faults l.fn.sink ≤ g.O.Sink.faults l.sink;
}

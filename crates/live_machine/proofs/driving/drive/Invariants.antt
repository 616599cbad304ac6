-- The lines so far were taken, ran and were answered.
use Rattle.std.proofs.Common.{◌≡◌, ℕ, ◌+◌, ◌≤◌, length}
use Rattle.live_model.specs.declared.limits.TheConstants.{MOST_LINES}
use Rattle.live_machine.specs.Drives.{HasDriven}
use Rattle.live_machine.specs.Judging.{HasHistory}
use Rattle.view_machine.specs.LineEnds.{frames_at}
use Rattle.view_machine.specs.Machines.{world_of, run_state, KeepsPlace}
use Rattle.live_machine.proofs.driving.drive.Given as goal

abbrev pub invariant-lines : goal.invariant-lines
invariant-lines g l =
    let old = l.initial.machine in
    record {
      driven : HasDriven (world_of old) (run_state old) (run_state l.machine) (g.I.Source.rest l.initial.source) l.reader.kept (g.I.Source.rest l.source) (g.O.Sink.written l.initial.sink) (g.O.Sink.written l.sink);
      many : length driven.ran.lines + l.left ≡ MOST_LINES;
      history : HasHistory l.machine l.sessions;
      place : KeepsPlace old l.machine;
      version : l.machine.board.version + l.left ≤ old.board.version + MOST_LINES;
      frames : (i : ℕ) → frames_at l.machine.seats.sessions i + l.left ≤ MOST_LINES;
      files : g.S.Store.files l.machine.chain.store ≡ g.S.Store.files old.chain.store;
      later : g.S.Store.faults old.chain.store ≤ g.S.Store.faults l.machine.chain.store;
      source_later : g.I.Source.faults l.initial.source ≤ g.I.Source.faults l.source;
      sink_later : g.O.Sink.faults l.initial.sink ≤ g.O.Sink.faults l.sink;
    }

abbrev pub decreases-lines : goal.decreases-lines
decreases-lines g l = l.left

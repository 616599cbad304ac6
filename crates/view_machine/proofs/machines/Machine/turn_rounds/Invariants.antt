-- The rounds but for this many were made.
use Rattle.std.proofs.Common.{◌≡◌, ◌≤◌}
use Rattle.view_machine.specs.Machines.{world_of, run_state, KeepsPlace}
use Rattle.view_machine.specs.TurnRounds.{MidRounds}
use Rattle.view_machine.proofs.machines.Machine.turn_rounds.Given as goal

abbrev pub invariant-rounds : goal.invariant-rounds
invariant-rounds g l = record {
  mid : MidRounds (world_of l.initial.self) l.rounds l.left (run_state l.initial.self) (run_state l.self) l.initial.out.items l.out.items;
  place : KeepsPlace l.initial.self l.self;
  seats : l.self.seats ≡ l.initial.self.seats;
  board : l.self.board ≡ l.initial.self.board;
  files : g.S.Store.files l.self.chain.store ≡ g.S.Store.files l.initial.self.chain.store;
  later : g.S.Store.faults l.initial.self.chain.store ≤ g.S.Store.faults l.self.chain.store;
}

abbrev pub decreases-rounds : goal.decreases-rounds
decreases-rounds g l = l.left

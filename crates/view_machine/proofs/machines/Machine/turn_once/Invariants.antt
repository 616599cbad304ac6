-- The tiers from the lowest down to this one have made a turn.
use Rattle.std.proofs.Common.{◌≡◌, ◌≤◌, length}
use Rattle.view_machine.specs.Machines.{world_of, run_state, KeepsPlace}
use Rattle.view_machine.specs.TurnRounds.{MidOnce}
use Rattle.view_machine.proofs.machines.Machine.turn_once.Given as goal

abbrev pub invariant-tiers : goal.invariant-tiers
invariant-tiers g l = record {
  few : l.left ≤ length l.self.chain.tiers;
  mid : MidOnce (world_of l.initial.self) (length (world_of l.initial.self).budgets) l.left (run_state l.initial.self) (run_state l.self) l.initial.out.items l.out.items l.idle;
  place : KeepsPlace l.initial.self l.self;
  seats : l.self.seats ≡ l.initial.self.seats;
  board : l.self.board ≡ l.initial.self.board;
  files : g.S.Store.files l.self.chain.store ≡ g.S.Store.files l.initial.self.chain.store;
  later : g.S.Store.faults l.initial.self.chain.store ≤ g.S.Store.faults l.self.chain.store;
}

abbrev pub decreases-tiers : goal.decreases-tiers
decreases-tiers g l = l.left

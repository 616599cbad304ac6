-- What holds of a machine is that its state is safe.
use Rattle.std.proofs.Common.{subst}
use Rattle.run_model.specs.Worlds.{IsWorld}
use Rattle.run_model.specs.Safe.{IsSafe}
use Rattle.view_machine.specs.Machines.{MachineSeen, world_of, run_state}
use Rattle.view_machine.proofs.machines.Machine.into_store.Goals as goal

pub returns-clause-world : goal.returns-clause-world
returns-clause-world g c = subst (λ (m : MachineSeen g.row.S.Denot). IsWorld (world_of m)) c.self.view_is c.self.invariant.world

pub returns-clause-safe : goal.returns-clause-safe
returns-clause-safe g c = subst (λ (m : MachineSeen g.row.S.Denot). IsSafe (world_of m) (run_state m)) c.self.view_is c.self.invariant.safe

-- The machine of a chain of tiers at rest.
use Rattle.std.proofs.Common.{◌≡◌, ℕ, List, Option, ap, ap₂, ◌∙◌}
use Rattle.view_outside.specs.Files.{file_bytes}
use Rattle.accepted_mesh.specs.MeshView.{MeshSeen}
use Rattle.cache_chain.specs.ChainStates.{states_of}
use Rattle.view_machine.specs.Machines.{world_with}
use Rattle.view_machine.specs.RestMachines.{rests_again, rests_state}
use Rattle.view_machine.proofs.machines.Machine.over_rest.Goals as goal
use Rattle.view_machine.proofs.machines.Machine.over_rest.Given as given

pub from_parts-chain-requires : goal.from_parts-chain-requires
from_parts-chain-requires g c = record { there = c.requires.file; are = c.requires.are }

module _ (g : given.Over) (c : goal.After-from_parts-chain g) where
  abbrev bytes : Option (List ℕ)
  bytes = file_bytes (g.S.Store.files c.args.store.now) c.args.file

  abbrev bytes_now : Option (List ℕ)
  bytes_now = file_bytes (g.S.Store.files c.from_parts-chain.result.store) c.from_parts-chain.result.file

  same_bytes : bytes_now ≡ bytes
  same_bytes = ap₂ (λ s f. file_bytes (g.S.Store.files s) f) c.from_parts-chain.ensures.store c.from_parts-chain.ensures.file

pub invariant_of-result : goal.invariant_of-result
invariant_of-result g c =
    let e = c.from_parts-chain.ensures in
    rests_again c.args.mesh.now c.from_parts-chain.result.mesh (bytes g c) (bytes_now g c) (states_of c.args.tiers.items) c.from_parts-chain.result.tiers c.args.words c.in_ok-seats.seats c.in_ok-board.board
    e.mesh (same_bytes g c) e.tiers c.in_ok-seats.ensures c.in_ok-board.ensures c.requires.rests

pub returns-clause-state : goal.returns-clause-state
returns-clause-state g c =
    rests_state c.args.mesh.now.lists (states_of c.args.tiers.items) c.from_parts-chain.result.tiers c.args.words c.in_ok-seats.seats c.in_ok-board.board
    c.from_parts-chain.ensures.tiers c.in_ok-seats.ensures c.in_ok-board.ensures c.requires.rests.unused

pub returns-clause-world : goal.returns-clause-world
returns-clause-world g c =
    let e = c.from_parts-chain.ensures in
    ap (λ (m : MeshSeen). world_with m.lists (bytes_now g c) c.from_parts-chain.result.tiers) e.mesh
    ∙ ap₂ (world_with c.args.mesh.now.lists) (same_bytes g c) e.tiers

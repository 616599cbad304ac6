-- The machine of a chain that has just opened.
use Rattle.std.proofs.Common.{ℕ, List, Option, ap₂}
use Rattle.view_outside.specs.Files.{file_bytes}
use Rattle.token_words.specs.PlainTokens.{words_seen}
use Rattle.cache_chain.specs.ChainStates.{states_of}
use Rattle.view_machine.specs.Openings.{OpensMachine, opens_machine, opens_again}
use Rattle.view_machine.proofs.machines.Machine.over_tiers.Goals as goal
use Rattle.view_machine.proofs.machines.Machine.over_tiers.Given as given

pub from_parts-chain-requires : goal.from_parts-chain-requires
from_parts-chain-requires g c = record { there = c.requires.file; are = c.requires.are }

module _ (g : given.Over) (c : goal.After-from_parts-chain g) where
  abbrev bytes : Option (List ℕ)
  bytes = file_bytes (g.S.Store.files c.args.store.now) c.args.file

  abbrev bytes_now : Option (List ℕ)
  bytes_now = file_bytes (g.S.Store.files c.from_parts-chain.result.store) c.from_parts-chain.result.file

  opens : OpensMachine c.from_parts-chain.result.mesh.lists bytes_now c.from_parts-chain.result.tiers (words_seen c.args.first.words) c.args.first.seats c.args.first.board
  opens =
      let e = c.from_parts-chain.ensures in
      opens_again c.args.mesh.now c.from_parts-chain.result.mesh bytes bytes_now (states_of c.args.tiers.items) c.from_parts-chain.result.tiers (words_seen c.args.first.words) c.args.first.seats c.args.first.board
      e.mesh (ap₂ (λ s f. file_bytes (g.S.Store.files s) f) e.store e.file) e.tiers
      (opens_machine c.args.mesh.now.lists bytes (states_of c.args.tiers.items) c.args.first.words c.args.first.seats c.args.first.board c.requires.are c.requires.opened c.requires.first)

pub invariant_of-result : goal.invariant_of-result
invariant_of-result g c = (opens g c).is

pub returns-clause-opens : goal.returns-clause-opens
returns-clause-opens g c =
    let e = c.from_parts-chain.ensures in
    record {
      world = (opens g c).is.world;
      holds = (opens g c).holds;
      safe = (opens g c).is.safe;
      opening = (opens g c).opening;
      closed = c.requires.first.closed;
      blank = c.requires.first.blank;
      mesh = e.mesh;
      file = e.file;
      bytes = ap₂ (λ s f. file_bytes (g.S.Store.files s) f) e.store e.file;
    }

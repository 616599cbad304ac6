-- The tiers that opened are over the store's file still.
use Rattle.std.proofs.Common.{List, Option, sym, subst}
use Rattle.view_outside.specs.Files.{Named, HasFile, file_bytes}
use Rattle.cache_chain.specs.ChainStates.{states_of, AreTiersOf}
use Rattle.cache_chain.specs.Opening.{IsOpened}
use Rattle.view_machine.specs.Openings.{OpensOver, world_opened}
use Rattle.view_machine.proofs.machines.Machine.start_wide.Goals as goal

pub over_tiers-requires-clause-file : goal.over_tiers-requires-clause-file
over_tiers-requires-clause-file g c = subst (λ (files : Option (List Named)). HasFile files c.args.file) (sym c.open_tiers.ensures.files) c.requires.file

pub over_tiers-requires-clause-are : goal.over_tiers-requires-clause-are
over_tiers-requires-clause-are g c =
    subst (λ (files : Option (List Named)). AreTiersOf c.args.mesh.now.lists.index (file_bytes files c.args.file) (states_of c.in_ok-tiers.tiers.items)) (sym c.open_tiers.ensures.files) c.in_ok-tiers.ensures.are

pub over_tiers-requires-clause-opened : goal.over_tiers-requires-clause-opened
over_tiers-requires-clause-opened g c = record {
  budgets = c.args.budgets.now;
  width = c.args.width;
  opens =
      subst (λ (files : Option (List Named)). IsOpened c.args.mesh.now.lists.index (file_bytes files c.args.file) c.args.budgets.now c.args.width (states_of c.in_ok-tiers.tiers.items)) (sym c.open_tiers.ensures.files) c.in_ok-tiers.ensures.opened;
}

pub returns-clause-opens : goal.returns-clause-opens
returns-clause-opens g c =
    subst (λ (files : Option (List Named)). OpensOver c.args.mesh.now c.args.file (file_bytes files c.args.file) c.over_tiers.result) c.open_tiers.ensures.files c.over_tiers.ensures.opens

pub returns-clause-world : goal.returns-clause-world
returns-clause-world g c =
    world_opened c.args.mesh.now c.args.file (file_bytes (g.S.Store.files c.args.store.now) c.args.file) c.over_tiers.result (states_of c.in_ok-tiers.tiers.items) c.args.budgets.now c.args.width
    (subst (λ (files : Option (List Named)). OpensOver c.args.mesh.now c.args.file (file_bytes files c.args.file) c.over_tiers.result) c.open_tiers.ensures.files c.over_tiers.ensures.opens)
    c.over_tiers.ensures.tiers c.requires.some_budget c.in_ok-tiers.ensures.opened

-- The tier holds the base, and the machine opens over the strip.
use Rattle.std.proofs.Common.{◌≡◌, ℕ, ◌-◌, ◌*◌, List, [], ◌∷◌, Option, Some, sym, ap, subst, ◌∙◌}
use Rattle.std.proofs.lemmas.Option.{same_Some}
use Rattle.file_model.specs.Lists.{IndexLists}
use Rattle.tier_model.specs.Tiers.{TierState}
use Rattle.view_outside.specs.Files.{Named, file_bytes}
use Rattle.cache_chain.specs.ChainStates.{states_of, AreTiersOf}
use Rattle.cache_chain.specs.Opening.{IsOpened}
use Rattle.cache_chain.specs.Refusals.{base_size, NamesBudget}
use Rattle.bench_laws.specs.BenchRuns.{bench_budget}
use Rattle.bench_run.specs.Begun.{start_refusal, opens_bench}
use Rattle.bench_run.specs.StripChecks.{strip_files, has_strip}
use Rattle.bench_run.proofs.runs.open_machine.Goals as goal

-- the budget, by the number of columns as it was widened
budget_is : (wide columns : ℕ) → wide ≡ columns → 300 * wide - 120 ≡ bench_budget columns
budget_is wide columns same = ap (λ (n : ℕ). 300 * n - 120) same

-- the store has the files that it had
files_are : (files now : List Named) (columns : ℕ) → Some now ≡ Some files → files ≡ strip_files columns → now ≡ strip_files columns
files_are files now columns same are = same_Some now files same ∙ are

pub open_tiers-requires-clause-file : goal.open_tiers-requires-clause-file
open_tiers-requires-clause-file c = has_strip c.args.columns c.args.store.now.files c.requires.files

pub memory_of_start-requires : goal.memory_of_start-requires
memory_of_start-requires c =
    let given = budget_is c.from.result c.args.columns c.from.ensures in
    start_refusal c.args.columns c.requires.least c.requires.most c.args.mesh.now c.requires.mesh c.args.store.now.files c.requires.files c.in-Err.refusal _ _ (subst (λ (n : ℕ). NamesBudget (base_size c.args.mesh.now.lists) n c.in-Err.refusal) given c.in-Err.ensures.budget) c.in-Err.ensures.told c.in-Err.ensures.reason

pub over_tiers-requires-clause-file : goal.over_tiers-requires-clause-file
over_tiers-requires-clause-file c = has_strip c.args.columns c.open_tiers.new.store.files (files_are c.args.store.now.files c.open_tiers.new.store.files c.args.columns c.open_tiers.ensures.files c.requires.files)

pub over_tiers-requires-clause-are : goal.over_tiers-requires-clause-are
over_tiers-requires-clause-are c =
    subst (λ (told : Option (List Named)). AreTiersOf c.args.mesh.now.lists.index (file_bytes told 0) (states_of c.in-Ok.tiers.items)) (sym c.open_tiers.ensures.files) c.in-Ok.ensures.are

-- the tiers have opened over what the store has now
opened_now : (index : IndexLists) (before now : Option (List Named)) (wide columns : ℕ) (tiers : List TierState) → now ≡ before → wide ≡ columns → IsOpened index (file_bytes before 0) ((300 * wide - 120) ∷ []) 1 tiers
    → IsOpened index (file_bytes now 0) (bench_budget columns ∷ []) 1 tiers
opened_now index before now wide columns tiers same is opened =
    subst (λ (told : Option (List Named)). IsOpened index (file_bytes told 0) (bench_budget columns ∷ []) 1 tiers) (sym same)
    (subst (λ (n : ℕ). IsOpened index (file_bytes before 0) (n ∷ []) 1 tiers) (budget_is wide columns is) opened)

pub over_tiers-requires-clause-opened : goal.over_tiers-requires-clause-opened
over_tiers-requires-clause-opened c = record {
  budgets = bench_budget c.args.columns ∷ [];
  width = 1;
  opens =
      opened_now c.args.mesh.now.lists.index (Some c.args.store.now.files) (Some c.open_tiers.new.store.files) c.from.result c.args.columns (states_of c.in-Ok.tiers.items) c.open_tiers.ensures.files c.from.ensures c.in-Ok.ensures.opened;
}

pub returns-in-Ok : goal.returns-in-Ok
returns-in-Ok c =
    opens_bench c.args.columns c.requires.least c.requires.most c.args.mesh.now c.requires.mesh c.open_tiers.new.store.files
    (files_are c.args.store.now.files c.open_tiers.new.store.files c.args.columns c.open_tiers.ensures.files c.requires.files)
    c.over_tiers.result (states_of c.in-Ok.tiers.items) c.over_tiers.ensures.opens c.over_tiers.ensures.tiers
    (opened_now c.args.mesh.now.lists.index (Some c.args.store.now.files) (Some c.open_tiers.new.store.files) c.from.result c.args.columns (states_of c.in-Ok.tiers.items) c.open_tiers.ensures.files c.from.ensures c.in-Ok.ensures.opened)

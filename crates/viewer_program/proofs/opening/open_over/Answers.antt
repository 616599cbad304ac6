-- The tiers open over the mesh, or tell why not.
use Rattle.std.proofs.Common.{ℕ, List, Option, Ok, refl, sym, subst}
use Rattle.std.specs.Prelude.{slice_index, IfSome}
use Rattle.dag_check.specs.Checks.{Checks}
use Rattle.viewer_program.specs.Outside.{store_seen}
use Rattle.viewer_program.specs.Playing.{IsPlay}
use Rattle.viewer_program.proofs.PlayLemmas.{world_of_mesh, holds_base, start_stops}
use Rattle.viewer_program.proofs.opening.open_over.Goals as goal

pub returns-in-Ok-clause-ready : goal.returns-in-Ok-clause-ready
returns-in-Ok-clause-ready g c =
    let rules : IsPlay c.args.play.now = record {
      wide = rw c.width.ensures.value at c.width.ensures.wide;
      some_tier = rw c.budgets.ensures.value at c.budgets.ensures.some_tier;
      few_tiers = rw c.budgets.ensures.value at c.budgets.ensures.few_tiers;
    } in
    rw c.open_tiers.ensures.files (record {
      there = c.requires.file;
      are = c.in-Ok.ensures.are;
      opened = rw (c.budgets.ensures.value, c.width.ensures.value) at c.in-Ok.ensures.opened;
      of_words = world_of_mesh _ c.args.mesh c.args.play.now c.requires.facts rules c.requires.checked;
      holds = holds_base _ (slice_index c.args.play.now.budgets 0) ⊥ refl (λ less. let e = rw c.budgets.ensures.value at c.in-Ok.ensures.large less in cc) (λ none. none);
    })

pub returns-in-Err-clause-stops : goal.returns-in-Err-clause-stops
returns-in-Err-clause-stops g c = λ name before told gave.
    let rules : IsPlay c.args.play.now = record {
      wide = rw c.width.ensures.value at c.width.ensures.wide;
      some_tier = rw c.budgets.ensures.value at c.budgets.ensures.some_tier;
      few_tiers = rw c.budgets.ensures.value at c.budgets.ensures.few_tiers;
    } in
    let checked = subst (λ (t : Option (List ℕ)). IfSome t (λ (bytes : List ℕ). Checks bytes (Ok c.args.mesh))) (sym told) c.requires.checked in
    rw c.status_of_start.ensures (start_stops c.args.play.now name before _ c.args.mesh c.in-Err.refusal (store_seen _ _ _) gave
    (world_of_mesh _ c.args.mesh c.args.play.now c.requires.facts rules checked) checked
    (λ less. let e = rw c.budgets.ensures.value at c.in-Err.ensures.large less in cc)
    (rw c.budgets.ensures.value at c.in-Err.ensures.budget) (rw told c.in-Err.ensures.told) c.in-Err.ensures.reason)

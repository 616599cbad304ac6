-- The base patches are patches of the mesh.
use Rattle.std.proofs.Common.{◌<◌, ℕ, List, length, sym, ap, subst, ◌∙◌}
use Rattle.std.specs.Prelude.{slice_index_or}
use Rattle.file_model.specs.Lists.{IndexLists}
use Rattle.mesh_model.specs.Graph.{leads_from, outgoing}
use Rattle.token_words.specs.PlainTokens.{IsStart}
use Rattle.body_loads.specs.PatchLists.{chosen_below}
use Rattle.view_machine.proofs.machines.opening.EmptyRun.new.Goals as goal

pub new-requires : goal.new-requires
new-requires c =
    let mesh = c.args.mesh.now.lists in
    let base = outgoing mesh.index.fields mesh.root in
    let many = c.patch_count.ensures.value ∙ ap (λ (i : IndexLists). length i.fields) c.index-index.ensures.value in
    subst (λ (ps : List ℕ). (k d : ℕ) → k < length ps → slice_index_or ps k d < c.patch_count.result) (sym c.base.ensures)
    (subst (λ (n : ℕ). (k d : ℕ) → k < length base → slice_index_or base k d < n) (sym many) (chosen_below (leads_from mesh.root) mesh.index.fields))

pub returns : goal.returns
returns c =
    let mesh = c.args.mesh.now.lists in
    let many = c.patch_count.ensures.value ∙ ap (λ (i : IndexLists). length i.fields) c.index-index.ensures.value in
    record {
      accepted = c.index-index.ensures.facts;
      start =
          subst (λ (ps : List ℕ). IsStart (length mesh.index.fields) ps c.in_ok-words.words) c.base.ensures
          (subst (λ (n : ℕ). IsStart n c.base.result.now c.in_ok-words.words) many c.in_ok-words.ensures);
      closed = c.in_ok-seats.ensures;
      blank = c.in_ok-board.ensures;
    }

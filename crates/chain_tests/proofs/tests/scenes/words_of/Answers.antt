-- The base patches are patches of the mesh.
use Rattle.std.proofs.Common.{◌≡◌, ℕ, ◌<◌, List, length, sym, ap, subst, ◌∙◌, IfOk}
use Rattle.std.specs.Prelude.{slice_index_or}
use Rattle.file_model.specs.Lists.{IndexLists}
use Rattle.mesh_model.specs.Graph.{leads_from, outgoing}
use Rattle.token_words.specs.PlainTokens.{IsStart}
use Rattle.body_loads.specs.PatchLists.{chosen_below}
use Rattle.chain_tests.proofs.tests.scenes.words_of.Goals as goal

pub new-requires : goal.new-requires
new-requires c =
    let mesh = c.args.mesh.now.lists in
    let count : c.patch_count.result ≡ length mesh.index.fields = c.patch_count.ensures.value ∙ ap (λ (index : IndexLists). length index.fields) c.index.ensures.value in
    subst (λ (ps : List ℕ). (k d : ℕ) → k < length ps → slice_index_or ps k d < c.patch_count.result) (sym c.base.ensures)
    (subst (λ (n : ℕ). (k d : ℕ) → k < length (outgoing mesh.index.fields mesh.root) → slice_index_or (outgoing mesh.index.fields mesh.root) k d < n) (sym count) (chosen_below (leads_from mesh.root) mesh.index.fields))

pub returns-clause-start : goal.returns-clause-start
returns-clause-start c =
    let mesh = c.args.mesh.now.lists in
    let count : c.patch_count.result ≡ length mesh.index.fields = c.patch_count.ensures.value ∙ ap (λ (index : IndexLists). length index.fields) c.index.ensures.value in
    subst (λ (n : ℕ). IfOk c.new.result (IsStart n (outgoing mesh.index.fields mesh.root))) count
    (subst (λ (ps : List ℕ). IfOk c.new.result (IsStart c.patch_count.result ps)) c.base.ensures c.new.ensures)

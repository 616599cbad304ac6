-- The counts are those of the mesh and of the run.
use Rattle.std.proofs.Common.{ℕ, length, refl, ap, ◌∙◌}
use Rattle.file_model.specs.Lists.{IndexLists}
use Rattle.file_model.specs.Reading.{file_size}
use Rattle.bench_run.specs.BaseSizes.{base_sum}
use Rattle.bench_run.specs.Counted.{are_counts}
use Rattle.bench_run.proofs.runs.counts_of.Goals as goal

pub returns : goal.returns
returns c =
    let mesh = c.args.mesh.now in
    let index = c.index-index.ensures.value in
    are_counts c.args.columns c.requires.least c.requires.most mesh c.requires.mesh _ c.args.frame
    (record {
      file_bytes = c.file_length.ensures.value ∙ ap file_size index;
      file_nodes = c.node_count.ensures.value ∙ ap (λ (i : IndexLists). length i.nodes) index;
      file_patches = c.patch_count.ensures.value ∙ ap (λ (i : IndexLists). length i.fields) index;
      base_patches = ap length c.base.ensures;
      base_triangles = c.base_triangles.ensures ∙ ap (λ (i : IndexLists). base_sum c.root.result i.fields) index ∙ ap (λ (v : ℕ). base_sum v mesh.lists.index.fields) c.root.ensures.value;
      base_open = c.base_open.ensures;
    })
    refl refl c.requires.runs

-- The graph of an index with a root makes a mesh.
use Rattle.std.proofs.Common.{ℕ, List, sym, ◌∙◌, subst}
use Rattle.file_model.specs.declared.fields.Node.{Node}
use Rattle.file_model.specs.declared.fields.PatchField.{PatchField}
use Rattle.mesh_graph.specs.Graphs.{IsGraphOf, IsVerdict, index_of}
use Rattle.live_tests.proofs.tests.square_mesh.Goals as goal

pub with-requires : goal.with-requires
with-requires c =
    let index = c.in_ok-index.index in
    let of_fields = subst (λ (ns : List Node). (version : ℕ) → IsGraphOf (index_of version ns c.fields.result.now) c.in_ok-graph.graph) c.nodes.ensures c.in_ok-graph.ensures in
    let graph = subst (λ (fs : List PatchField). IsGraphOf (index_of index.version index.nodes fs) c.in_ok-graph.graph) c.fields.ensures (of_fields index.version) in
    record {
      rules = c.patch_count-patches.ensures.rules;
      graph = graph;
      nested = subst (IsVerdict index) (sym c.verdict.ensures ∙ c.in-Ok.is) graph.verdict_is;
    }

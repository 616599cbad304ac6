use Rattle.std.proofs.Common.{◌∙◌, ap}
use Rattle.mesh_graph.specs.Adjacency.{is_bare_at}
use Rattle.mesh_graph.specs.Graphs.{GraphSeen}
use Rattle.mesh_graph.proofs.VerdictLaws.{seen_root}
use Rattle.mesh_graph.proofs.graph.MeshGraph.is_root.Goals as goal

pub returns-clause-root : goal.returns-clause-root
returns-clause-root c index is =
    c.is_bare.ensures ∙ ap (λ (seen : GraphSeen). is_bare_at seen.incoming c.args.node) c.self.view_is ∙ seen_root index c.args.self.now c.args.node is c.requires

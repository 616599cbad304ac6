use Rattle.std.proofs.Common.{◌∙◌, ap}
use Rattle.mesh_graph.specs.Adjacency.{is_bare_at}
use Rattle.mesh_graph.specs.Graphs.{GraphSeen}
use Rattle.mesh_graph.proofs.VerdictLaws.{seen_sink}
use Rattle.mesh_graph.proofs.graph.MeshGraph.is_sink.Goals as goal

pub returns-clause-sink : goal.returns-clause-sink
returns-clause-sink c index is =
    c.is_bare.ensures ∙ ap (λ (seen : GraphSeen). is_bare_at seen.outgoing c.args.node) c.self.view_is ∙ seen_sink index c.args.self.now c.args.node is c.requires

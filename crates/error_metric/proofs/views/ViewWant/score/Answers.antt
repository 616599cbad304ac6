use Rattle.mesh_graph.specs.NearGrid.{near_grid}
use Rattle.error_metric.proofs.NodeLemmas.{score_at}
use Rattle.error_metric.proofs.views.ViewWant.score.Goals as goal

pub score_of_node-requires-clause-centre : goal.score_of_node-requires-clause-centre
score_of_node-requires-clause-centre c =
    near_grid c.args.mesh.now.lists.index.nodes c.index.ensures.facts.rules.nodes c.args.node c.node.result (rw (← c.index.ensures.value) c.node.ensures)

pub returns : goal.returns
returns c =
    rw (← c.index.ensures.value, c.score_of_node.ensures, c.eye.ensures.value, c.focal.ensures)
    (score_at c.args.self.now.eye c.args.self.now.focal c.index.result.now.nodes c.args.node c.node.result c.node.ensures)

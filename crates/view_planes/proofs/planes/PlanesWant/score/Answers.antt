use Rattle.std.proofs.Common.{◌≡◌, Some, map, sym, ap, subst, ◌∙◌}
use Rattle.std.specs.Prelude.{slice_get}
use Rattle.round_model.specs.Scores.{score_of}
use Rattle.round_model.specs.Views.{ViewSeen}
use Rattle.view_planes.specs.Planes.{PlanesSeen}
use Rattle.view_planes.specs.NodeBalls.{centre_in_grid, radius_bound}
use Rattle.view_planes.proofs.CulledScores.{score_of_culled, score_in_front}
use Rattle.view_planes.proofs.planes.PlanesWant.score.Goals as goal

pub is_culled-requires-clause-centre : goal.is_culled-requires-clause-centre
is_culled-requires-clause-centre c =
    centre_in_grid c.args.mesh.now.lists.index.nodes c.index.ensures.facts.rules.nodes c.args.node c.node.result (rw (← c.index.ensures.value) c.node.ensures)

pub is_culled-requires-clause-radius : goal.is_culled-requires-clause-radius
is_culled-requires-clause-radius c =
    radius_bound c.args.mesh.now.lists.index.nodes c.index.ensures.facts.rules.nodes c.args.node c.node.result (rw (← c.index.ensures.value) c.node.ensures)

pub returns-then-is_culled : goal.returns-then-is_culled
returns-then-is_culled c =
    score_of_culled c.args.self.now c.args.mesh.now.lists.index.nodes c.args.node c.node.result (rw (← c.index.ensures.value) c.node.ensures) (sym c.is_culled.ensures ∙ c.if-is_culled.true)

pub returns : goal.returns
returns c =
    let nodes = c.args.mesh.now.lists.index.nodes in
    let score = subst (λ (view : ViewSeen). slice_get (map (score_of view.eye view.focal) nodes) c.args.node ≡ Some c.score.result) (ap (λ (p : PlanesSeen). p.view) c.self.view_is) c.score.ensures in
    score_in_front c.args.self.now nodes c.args.node c.node.result c.score.result (rw (← c.index.ensures.value) c.node.ensures) (sym c.is_culled.ensures ∙ c.if-is_culled.false) score

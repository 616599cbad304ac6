-- One triangle's keys more.
use Rattle.std.proofs.Common.{ℕ, List, ◌++◌, ap, ◌∙◌}
use Rattle.file_model.specs.Lists.{corners_of}
use Rattle.body_edges.specs.Keys.{keys_of_corners}
use Rattle.body_edges.proofs.BorderLaws.{keys_in_more}
use Rattle.body_edges.proofs.keys.push_keys.Goals as goal

pub loop-triangle-preserved : goal.loop-triangle-preserved
loop-triangle-preserved c =
    c.in_ok-push_triangle.ensures
    ∙ ap (λ (keys : List ℕ). keys ++ keys_of_corners (corners_of c.corners.result)) c.loop-triangle.invariant
    ∙ keys_in_more c.args.body.now.lists.corners c.loop-triangle.triangle (corners_of c.corners.result) c.corners.ensures

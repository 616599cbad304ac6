use Rattle.std.proofs.Common.{◌∙◌, length, map, take, get_or, ap, arith, length-append}
use Rattle.std.specs.Arc.{arc_value}
use Rattle.body_edges.specs.TriangleCounts.{length-triangles_from}
use Rattle.file_model.specs.Lists.{SeenBody, triangles_of}
use Rattle.frame_writer.specs.Frames.{triangles_in}
use Rattle.frame_writer.proofs.FrameLemmas.{triangles_in-take_more}
use Rattle.view_machine.proofs.shown.triangles_of.Goals as goal

pub loop-body-preserved : goal.loop-body-preserved
loop-body-preserved c =
    let bodies = c.args.bodies.now in
    let i = c.loop-body.body-index in
    let item = c.body-item.result in
    let more = triangles_in-take_more arc_value bodies i item c.loop-body-test.true in
    let body = c.deref.ensures ∙ ap arc_value c.body-item.is in
    let lists = (arc_value (get_or bodies i item)).lists in
    let added = ap length more ∙ length-append (triangles_in (map arc_value (take i bodies))) (triangles_of lists) in
    let size = length-triangles_from lists.points lists.corners in
    let here = ap (λ (b : SeenBody). length b.lists.corners) body in
    record {
      counts = omega (arith, added, size, here, c.triangle_count.ensures, c.loop-body.invariant.counts);
      few = omega (arith, c.loop-body.invariant.few);
    }

-- One more body is taken and added.
use Rattle.std.proofs.Common.{◌∙◌, ◌++◌, List, take, map, ap, sym, subst, arith}
use Rattle.std.specs.Arc.{arc_value}
use Rattle.grid_vertex.specs.declared.triangles.Triangle.{Triangle}
use Rattle.file_model.specs.Lists.{triangles_of}
use Rattle.edge_chain.specs.Chains.{IsNetOf}
use Rattle.frame_writer.specs.Frames.{triangles_in}
use Rattle.frame_writer.proofs.FrameLemmas.{triangles_in-take_more}
use Rattle.frame_writer.proofs.bodies.edges_of.Goals as goal

pub loop-body-preserved : goal.loop-body-preserved
loop-body-preserved c =
    let bodies = c.args.bodies.now in
    let i = c.loop-body.body-index in
    let item = c.body-item.result in
    let more = triangles_in-take_more arc_value bodies i item c.loop-body-test.true in
    let body = c.deref.ensures ∙ ap arc_value c.body-item.is in
    let joined = ap (λ b. triangles_in (map arc_value (take i bodies)) ++ triangles_of b.lists) body ∙ sym more in
    record {
      few = omega (arith, c.in_ok-add_body.ensures.few, c.loop-body.invariant.few);
      nets = subst (λ (ts : List Triangle). IsNetOf ts c.add_body.new.chain) joined (c.in_ok-add_body.ensures.nets _ c.loop-body.invariant.nets);
    }

use Rattle.std.proofs.Common.{◌∙◌, ap, subst}
use Rattle.std.specs.Arc.{arc_value}
use Rattle.std.specs.List.{flat_map}
use Rattle.file_model.specs.Lists.{triangles_of}
use Rattle.text_model.specs.FrameText.{triangle_line}
use Rattle.text_model.specs.Lines.{Adds}
use Rattle.frame_writer.specs.Appending.{Adds-begins, Begins-then}
use Rattle.frame_writer.proofs.LineLemmas.{on_err}
use Rattle.frame_writer.proofs.FrameLemmas.{Adds-body}
use Rattle.frame_writer.proofs.bodies.write_bodies.Goals as goal

pub returns-in_err-write_body-clause-err : goal.returns-in_err-write_body-clause-err
returns-in_err-write_body-clause-err c = on_err _ (Begins-then (Adds-begins c.loop-body.invariant) c.in_err-write_body.ensures.err)

pub loop-body-preserved : goal.loop-body-preserved
loop-body-preserved c =
    let lines = subst (λ body. Adds c.loop-body.out.items c.write_body.new.out.items (flat_map triangle_line (triangles_of body.lists))) (c.deref.ensures ∙ ap arc_value c.body-item.is) c.in_ok-write_body.ensures.ok in
    Adds-body arc_value c.args.bodies.now c.loop-body.body-index c.body-item.result c.loop-body-test.true c.loop-body.invariant lines

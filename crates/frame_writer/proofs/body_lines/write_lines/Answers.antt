use Rattle.std.proofs.Common.{◌≤◌, length, subst, arith}
use Rattle.std.proofs.lemmas.List.{take_all}
use Rattle.std.specs.List.{flat_map}
use Rattle.file_model.specs.Lists.{corners_of, triangle_of, triangles_of}
use Rattle.body_edges.specs.TriangleCounts.{length-triangles_from}
use Rattle.text_model.specs.FrameText.{triangle_line}
use Rattle.text_model.specs.Lines.{Adds}
use Rattle.frame_writer.specs.Appending.{Adds-begins, Begins-then}
use Rattle.frame_writer.proofs.LineLemmas.{on_err}
use Rattle.frame_writer.proofs.FrameLemmas.{Adds-triangle}
use Rattle.frame_writer.proofs.PointTextLemmas.{corners_with_texts, line_from_texts, triangle_there}
use Rattle.frame_writer.proofs.body_lines.write_lines.Goals as goal

pub text_at-first-requires : goal.text_at-first-requires
text_at-first-requires c =
    let body = c.args.body.now in
    (corners_with_texts body.version body.lists c.args.texts.now c.loop-triangle.triangle (corners_of c.corners.result) c.size-size.ensures.facts.rules c.requires c.corners.ensures).a

pub text_at-second-requires : goal.text_at-second-requires
text_at-second-requires c =
    let body = c.args.body.now in
    (corners_with_texts body.version body.lists c.args.texts.now c.loop-triangle.triangle (corners_of c.corners.result) c.size-size.ensures.facts.rules c.requires c.corners.ensures).b

pub text_at-third-requires : goal.text_at-third-requires
text_at-third-requires c =
    let body = c.args.body.now in
    (corners_with_texts body.version body.lists c.args.texts.now c.loop-triangle.triangle (corners_of c.corners.result) c.size-size.ensures.facts.rules c.requires c.corners.ensures).c

pub returns-in_err-write_corners-clause-err : goal.returns-in_err-write_corners-clause-err
returns-in_err-write_corners-clause-err c = on_err _ (Begins-then (Adds-begins c.loop-triangle.invariant) c.in_err-write_corners.ensures.err)

pub loop-triangle-preserved : goal.loop-triangle-preserved
loop-triangle-preserved c =
    let lists = c.args.body.now.lists in
    let t = corners_of c.corners.result in
    let there = triangle_there lists.points lists.corners c.loop-triangle.triangle t c.corners.ensures in
    let line = line_from_texts lists.points c.args.texts.now t c.requires c.text_at-first.ensures c.text_at-second.ensures c.text_at-third.ensures in
    Adds-triangle (triangles_of lists) c.loop-triangle.triangle (triangle_of lists.points t) there c.loop-triangle.invariant (subst (λ ts. Adds c.loop-triangle.out.items c.write_corners.new.out.items ts) line c.in_ok-write_corners.ensures.ok)

pub returns-clause-ok : goal.returns-clause-ok
returns-clause-ok c =
    let lists = c.args.body.now.lists in
    let count = length-triangles_from lists.points lists.corners in
    let all : length (triangles_of lists) ≤ c.loop-triangle.triangle = omega (arith, count) in
    subst (λ ts. Adds c.args.out.now.items c.loop-triangle.out.items (flat_map triangle_line ts)) (take_all c.loop-triangle.triangle (triangles_of lists) all) c.loop-triangle.invariant

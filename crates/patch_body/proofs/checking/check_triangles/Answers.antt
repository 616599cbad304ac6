use Rattle.std.proofs.lemmas.Result.{err_from_is_err_and}
use Rattle.std.proofs.Common.{◌<◌, ◌≤◌, arith}
use Rattle.file_model.specs.Reading.{triangle_at}
use Rattle.patch_body.specs.Places.{points_read}
use Rattle.patch_body.proofs.Loops.{goes_on, ends, is_done}
use Rattle.patch_body.proofs.Points.{are_points}
use Rattle.patch_body.proofs.Triangles.{triangle_unit}
use Rattle.patch_body.proofs.checking.check_triangles.Goals as goal

pub behind_points-rest-requires : goal.behind_points-rest-requires
behind_points-rest-requires c = (are_points c.args.version c.args.field.now.points c.args.source.patch c.args.source.end c.args.bytes.now c.requires).1.room

pub returns-in_err-rest : goal.returns-in_err-rest
returns-in_err-rest c =
    let below : c.loop-k.k < c.args.field.now.triangles = omega arith in
    let p = err_from_is_err_and c.from_residual.result c.from_residual.ensures.1 in
    rw (p.1, p.2) (ends (triangle_at (points_read c.args.version c.args.field.now.points c.args.source.patch c.args.source.end c.args.bytes.now) c.args.source.patch c.args.source.end) c.args.field.now.triangles c.loop-k.k c.loop-k.rest.now c.in_err-rest.field-0.0 _ below c.in_err-rest.ensures.fault c.loop-k.invariant)

pub loop-k-preserved : goal.loop-k-preserved
loop-k-preserved c =
    let below : c.loop-k.k < c.args.field.now.triangles = omega arith in
    goes_on (triangle_unit (points_read c.args.version c.args.field.now.points c.args.source.patch c.args.source.end c.args.bytes.now) c.args.source.patch c.args.source.end) c.args.field.now.triangles c.loop-k.k c.loop-k.rest.now c.in_ok-rest.rest.now _ below c.in_ok-rest.ensures.fault c.in_ok-rest.ensures.rest c.loop-k.invariant

pub returns : goal.returns
returns c =
    let past : c.args.field.now.triangles ≤ c.loop-k.k = omega arith in
    is_done (triangle_at (points_read c.args.version c.args.field.now.points c.args.source.patch c.args.source.end c.args.bytes.now) c.args.source.patch c.args.source.end) c.args.field.now.triangles c.loop-k.k c.loop-k.rest.now _ past c.loop-k.invariant

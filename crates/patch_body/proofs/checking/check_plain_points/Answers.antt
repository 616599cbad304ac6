use Rattle.std.proofs.lemmas.Result.{err_from_is_err_and}
use Rattle.std.proofs.Common.{◌<◌, ◌≤◌, arith}
use Rattle.file_model.specs.Reading.{point_at}
use Rattle.patch_body.proofs.Loops.{goes_on, ends, is_done}
use Rattle.patch_body.proofs.Points.{point_unit}
use Rattle.patch_body.proofs.checking.check_plain_points.Goals as goal

pub returns-in_err-rest : goal.returns-in_err-rest
returns-in_err-rest c =
    let below : c.loop-k.k < c.args.count = omega arith in
    let p = err_from_is_err_and c.from_residual.result c.from_residual.ensures.1 in
    rw (p.1, p.2) (ends (point_at c.args.source.patch c.args.source.end) c.args.count c.loop-k.k c.loop-k.rest.now c.in_err-rest.field-0.0 _ below c.in_err-rest.ensures.fault c.loop-k.invariant)

pub loop-k-preserved : goal.loop-k-preserved
loop-k-preserved c =
    let below : c.loop-k.k < c.args.count = omega arith in
    goes_on (point_unit c.args.source.patch c.args.source.end) c.args.count c.loop-k.k c.loop-k.rest.now c.in_ok-rest.rest.now _ below c.in_ok-rest.ensures.fault c.in_ok-rest.ensures.rest c.loop-k.invariant

pub returns : goal.returns
returns c =
    let past : c.args.count ≤ c.loop-k.k = omega arith in
    is_done (point_at c.args.source.patch c.args.source.end) c.args.count c.loop-k.k c.loop-k.rest.now _ past c.loop-k.invariant

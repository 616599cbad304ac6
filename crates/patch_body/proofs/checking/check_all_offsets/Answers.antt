use Rattle.std.proofs.lemmas.Result.{err_from_is_err_and}
use Rattle.std.proofs.Common.{◌<◌, ◌≤◌, ◌∙◌, arith}
use Rattle.file_model.specs.Reading.{shifted_at}
use Rattle.patch_body.proofs.Loops.{goes_on_seeing, ends_seeing, is_done_seeing}
use Rattle.patch_body.proofs.Points.{shifted_unit}
use Rattle.patch_body.proofs.checking.check_all_offsets.Goals as goal

pub returns-in_err-zeros : goal.returns-in_err-zeros
returns-in_err-zeros c =
    let below : c.loop-k.k < c.args.count = omega arith in
    let p = err_from_is_err_and c.from_residual.result c.from_residual.ensures.1 in
    rw (p.1, p.2) (ends_seeing (shifted_at c.args.origin c.args.source.patch c.args.source.end) c.loop-k.seen c.args.origin c.args.source.patch c.args.count c.loop-k.k c.loop-k.rest.now c.in_err-zeros.field-0.0 _ below c.in_err-zeros.ensures.fault c.loop-k.invariant)

pub loop-k-preserved : goal.loop-k-preserved
loop-k-preserved c =
    let below : c.loop-k.k < c.args.count = omega arith in
    rw (c.or-seen.ensures, c.in_ok-zeros.ensures.zeros) (goes_on_seeing (shifted_unit c.args.origin c.args.source.patch c.args.source.end) c.loop-k.seen c.args.origin c.args.source.patch c.args.count c.loop-k.k c.loop-k.rest.now c.in_ok-zeros.behind.now _ below c.in_ok-zeros.ensures.fault c.in_ok-zeros.ensures.rest c.loop-k.invariant)

pub returns : goal.returns
returns c =
    let past : c.args.count ≤ c.loop-k.k = omega arith in
    c.tight.ensures ∙ is_done_seeing (shifted_at c.args.origin c.args.source.patch c.args.source.end) c.loop-k.seen c.args.origin c.args.source.patch c.args.count c.loop-k.k c.loop-k.rest.now _ past c.loop-k.invariant

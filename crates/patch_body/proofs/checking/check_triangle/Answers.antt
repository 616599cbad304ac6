use Rattle.std.proofs.lemmas.Result.{err_from_is_err_and}
use Rattle.std.proofs.Common.{◌≡◌, ◌∙◌, sym, ap, true, false, Option, Some, None}
use Rattle.grid_vertex.specs.Triangles.{is_flat_triangle}
use Rattle.file_model.specs.declared.faults.FileFault.{FileFault}
use Rattle.file_model.specs.Lists.{corners_of, triangle_of}
use Rattle.patch_body.specs.Faults.{corner_fault}
use Rattle.patch_body.specs.Places.{points_read}
use Rattle.patch_body.proofs.Points.{are_points}
use Rattle.patch_body.proofs.Triangles.{checked_triangle, flat_fault, or_flat, are_below, corners_there}
use Rattle.patch_body.proofs.checking.check_triangle.Goals as goal

pub returns-in_err-check_corners-clause-fault : goal.returns-in_err-check_corners-clause-fault
returns-in_err-check_corners-clause-fault c =
    let p = err_from_is_err_and c.from_residual.result c.from_residual.ensures.1 in
    let points = points_read c.args.version c.args.count c.args.source.patch c.args.source.end c.args.bytes.now in
    let t = corners_of c.read_corners-corners.result in
    let found : Some c.in_err-check_corners.field-0.0 ≡ corner_fault c.args.source.patch c.args.count c.args.k t = c.in_err-check_corners.ensures in
    rw (p.1, p.2) (sym (checked_triangle c.args.version c.args.count c.args.source.patch c.args.source.end c.args.k c.args.bytes.now c.args.rest.now c.read_corners-corners.result c.requires c.if-rest-lt6.false c.read_corners-corners.ensures
    ∙ ap (λ (f : Option FileFault). or_flat f (is_flat_triangle (triangle_of points t)) c.args.source.patch c.args.k) (sym found)))

pub triangle_at-requires : goal.triangle_at-requires
triangle_at-requires c =
    let p = are_points c.args.version c.args.count c.args.source.patch c.args.source.end c.args.bytes.now c.requires in
    corners_there c.args.version c.args.count c.args.source.patch c.args.source.end c.args.bytes.now p.0 p.1 c.read_corners-corners.result (are_below c.args.source.patch c.args.count c.args.k (corners_of c.read_corners-corners.result) c.in_ok-check_corners.ensures)

pub returns-then-is_flat-clause-fault : goal.returns-then-is_flat-clause-fault
returns-then-is_flat-clause-fault c =
    let flat : true ≡ is_flat_triangle c.triangle_at.result = c.if-is_flat.ensures in
    let none : None ≡ corner_fault c.args.source.patch c.args.count c.args.k (corners_of c.read_corners-corners.result) = c.in_ok-check_corners.ensures in
    flat_fault c.args.version c.args.count c.args.source.patch c.args.source.end c.args.k c.args.bytes.now c.args.rest.now c.read_corners-corners.result c.requires c.if-rest-lt6.false c.read_corners-corners.ensures none true (flat ∙ ap is_flat_triangle c.triangle_at.ensures)

pub returns-clause-fault : goal.returns-clause-fault
returns-clause-fault c =
    let flat : false ≡ is_flat_triangle c.triangle_at.result = c.if-is_flat.ensures in
    let none : None ≡ corner_fault c.args.source.patch c.args.count c.args.k (corners_of c.read_corners-corners.result) = c.in_ok-check_corners.ensures in
    flat_fault c.args.version c.args.count c.args.source.patch c.args.source.end c.args.k c.args.bytes.now c.args.rest.now c.read_corners-corners.result c.requires c.if-rest-lt6.false c.read_corners-corners.ensures none false (flat ∙ ap is_flat_triangle c.triangle_at.ensures)

use Rattle.std.proofs.Common.{◌<◌, arith}
use Rattle.patch_body.proofs.Kept.{kept_triangle, seen_triangles}
use Rattle.patch_body.proofs.bodies.Body.corners.Goals as goal

pub corners_at-requires : goal.corners_at-requires
corners_at-requires c =
    let b = c.self.inside in
    let many = seen_triangles b.patch b.version b.points b.triangles b.bytes.items c.args.self.now c.self.invariant c.self.view_is in
    let below : c.args.t < b.triangles = omega arith in
    rw c.deref.ensures.value (kept_triangle b.version b.points b.triangles b.bytes.items c.self.invariant.reads c.args.t below).room

pub returns : goal.returns
returns c =
    let b = c.self.inside in
    let many = seen_triangles b.patch b.version b.points b.triangles b.bytes.items c.args.self.now c.self.invariant c.self.view_is in
    let below : c.args.t < b.triangles = omega arith in
    rw (← c.self.view_is, c.corners_at.ensures, c.deref.ensures.value) (kept_triangle b.version b.points b.triangles b.bytes.items c.self.invariant.reads c.args.t below).item

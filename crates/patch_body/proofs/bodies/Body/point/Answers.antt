use Rattle.std.proofs.Common.{◌<◌, arith}
use Rattle.patch_body.proofs.Kept.{kept_point, kept_places, seen_points}
use Rattle.patch_body.proofs.bodies.Body.point.Goals as goal

pub point_at-requires : goal.point_at-requires
point_at-requires c =
    let b = c.self.inside in
    let long = seen_points b.patch b.version b.points b.triangles b.bytes.items c.args.self.now c.self.invariant c.self.view_is in
    let below : c.args.point < b.points = omega arith in
    rw c.deref.ensures.value (kept_places b.version b.points b.triangles b.bytes.items c.self.invariant.reads c.args.point below)

pub returns-clause-there : goal.returns-clause-there
returns-clause-there c =
    let b = c.self.inside in
    let long = seen_points b.patch b.version b.points b.triangles b.bytes.items c.args.self.now c.self.invariant c.self.view_is in
    let below : c.args.point < b.points = omega arith in
    rw (← c.self.view_is, c.point_at.ensures, c.deref.ensures.value) (kept_point b.version b.points b.triangles b.bytes.items c.self.invariant.reads c.args.point below)

pub returns-clause-grid : goal.returns-clause-grid
returns-clause-grid c =
    let b = c.self.inside in
    let long = seen_points b.patch b.version b.points b.triangles b.bytes.items c.args.self.now c.self.invariant c.self.view_is in
    let below : c.args.point < b.points = omega arith in
    rw (c.point_at.ensures, c.deref.ensures.value) (kept_places b.version b.points b.triangles b.bytes.items c.self.invariant.reads c.args.point below).grid

use Rattle.std.proofs.Common.{◌<◌, arith}
use Rattle.patch_body.proofs.Kept.{kept_triangle, seen_triangles, triangle_there}
use Rattle.patch_body.proofs.bodies.Body.triangle.Goals as goal

pub corners_at-corners-requires : goal.corners_at-corners-requires
corners_at-corners-requires c =
    let b = c.self.inside in
    let many = seen_triangles b.patch b.version b.points b.triangles b.bytes.items c.args.self.now c.self.invariant c.self.view_is in
    let below : c.args.t < b.triangles = omega arith in
    rw c.deref.ensures.value (kept_triangle b.version b.points b.triangles b.bytes.items c.self.invariant.reads c.args.t below).room

pub triangle_at-requires : goal.triangle_at-requires
triangle_at-requires c =
    let b = c.self.inside in
    let many = seen_triangles b.patch b.version b.points b.triangles b.bytes.items c.args.self.now c.self.invariant c.self.view_is in
    let below : c.args.t < b.triangles = omega arith in
    let there = triangle_there b.version b.points b.triangles b.bytes.items c.self.invariant.reads c.args.t below c.corners_at-corners.result (rw c.deref.ensures.value at c.corners_at-corners.ensures) in
    rw (c.deref-2.ensures.value) there.places

pub returns-clause-there : goal.returns-clause-there
returns-clause-there c =
    let b = c.self.inside in
    let many = seen_triangles b.patch b.version b.points b.triangles b.bytes.items c.args.self.now c.self.invariant c.self.view_is in
    let below : c.args.t < b.triangles = omega arith in
    let there = triangle_there b.version b.points b.triangles b.bytes.items c.self.invariant.reads c.args.t below c.corners_at-corners.result (rw c.deref.ensures.value at c.corners_at-corners.ensures) in
    rw (← c.self.view_is, c.triangle_at.ensures, c.deref-2.ensures.value) there.item

pub returns-clause-not_flat : goal.returns-clause-not_flat
returns-clause-not_flat c =
    let b = c.self.inside in
    let many = seen_triangles b.patch b.version b.points b.triangles b.bytes.items c.args.self.now c.self.invariant c.self.view_is in
    let below : c.args.t < b.triangles = omega arith in
    let there = triangle_there b.version b.points b.triangles b.bytes.items c.self.invariant.reads c.args.t below c.corners_at-corners.result (rw c.deref.ensures.value at c.corners_at-corners.ensures) in
    rw (c.triangle_at.ensures, c.deref-2.ensures.value) there.not_flat

pub returns-clause-grid : goal.returns-clause-grid
returns-clause-grid c =
    let b = c.self.inside in
    let many = seen_triangles b.patch b.version b.points b.triangles b.bytes.items c.args.self.now c.self.invariant c.self.view_is in
    let below : c.args.t < b.triangles = omega arith in
    let there = triangle_there b.version b.points b.triangles b.bytes.items c.self.invariant.reads c.args.t below c.corners_at-corners.result (rw c.deref.ensures.value at c.corners_at-corners.ensures) in
    rw (c.triangle_at.ensures, c.deref-2.ensures.value) there.grid

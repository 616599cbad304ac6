use Rattle.std.proofs.Common.{◌∙◌, sym}
use Rattle.patch_body.proofs.Kept.{kept_lists}
use Rattle.patch_body.proofs.bodies.Body.triangle_count.Goals as goal

pub returns : goal.returns
returns c =
    let b = c.self.inside in
    rw (← c.self.view_is) (c.from.ensures ∙ sym (kept_lists b.version b.points b.triangles b.bytes.items c.self.invariant.reads).corners.count)

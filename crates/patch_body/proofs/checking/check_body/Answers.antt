use Rattle.std.proofs.Common.{◌∙◌, sym}
use Rattle.patch_body.proofs.Lists.{body_fault}
use Rattle.patch_body.proofs.checking.check_body.Goals as goal

pub returns-clause-fault : goal.returns-clause-fault
returns-clause-fault c = c.check_triangles.ensures ∙ sym (body_fault c.args.version c.args.patch c.args.field.now c.args.offset c.args.bytes.now (sym c.in_ok-check_points.ensures))

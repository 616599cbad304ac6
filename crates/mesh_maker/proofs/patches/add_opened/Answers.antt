use Rattle.std.proofs.Common.{◌+◌, refl, arith}
use Rattle.strip_laws.specs.StripBodies.{round_is_body}
use Rattle.mesh_maker.proofs.patches.add_opened.Goals as goal

pub add_patch-requires-clause-rules : goal.add_patch-requires-clause-rules
add_patch-requires-clause-rules c =
    rw (c.low.ensures, c.high.ensures, c.high-2.ensures, c.middle.ensures, c.low-2.ensures, c.middle-2.ensures, c.halfway.ensures)
    (round_is_body c.args.version c.args.before (c.args.before + 1) refl (omega arith))

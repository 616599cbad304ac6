use Rattle.std.proofs.Common.{arith}
use Rattle.strip_laws.specs.StripBodies.{right_is_body}
use Rattle.mesh_maker.proofs.patches.add_right.Goals as goal

pub add_patch-requires-clause-rules : goal.add_patch-requires-clause-rules
add_patch-requires-clause-rules c = rw (c.low.ensures, c.high.ensures, c.high-2.ensures, c.middle.ensures) (right_is_body c.args.version c.args.column (omega arith))

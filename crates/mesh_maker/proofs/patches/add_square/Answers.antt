use Rattle.strip_laws.specs.StripBodies.{square_is_body}
use Rattle.mesh_maker.proofs.patches.add_square.Goals as goal

pub add_patch-requires-clause-rules : goal.add_patch-requires-clause-rules
add_patch-requires-clause-rules c = rw (c.low.ensures, c.low-2.ensures, c.high.ensures, c.high-2.ensures) (square_is_body c.args.version c.args.column c.requires.within)

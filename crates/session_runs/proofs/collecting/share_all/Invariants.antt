-- The bodies of the patches before this one were appended.
use Rattle.std.proofs.Common.{take}
use Rattle.session_runs.specs.Bodies.{AddsBodies}
use Rattle.session_runs.proofs.collecting.share_all.Given as goal

abbrev pub invariant-loop-patch : goal.invariant-loop-patch
invariant-loop-patch g l = AddsBodies g.N.Naming.setup (take l.patch-index l.patches) l.initial.bodies l.bodies

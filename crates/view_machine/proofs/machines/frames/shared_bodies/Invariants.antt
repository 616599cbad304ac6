-- The bodies of the patches before this one.
use Rattle.std.proofs.Common.{◌≡◌, map, take}
use Rattle.std.specs.Arc.{arc_value}
use Rattle.run_model.specs.Lines.{top_body}
use Rattle.view_machine.proofs.machines.frames.shared_bodies.Given as goal

abbrev pub invariant-loop-patch : goal.invariant-loop-patch
invariant-loop-patch g l = map arc_value l.bodies.items ≡ map (top_body l.chain.tiers) (take l.patch-index l.patches)

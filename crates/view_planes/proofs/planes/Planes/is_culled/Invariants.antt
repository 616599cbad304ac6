-- None of the half-spaces before this one decides it.
use Rattle.std.proofs.Common.{◌≡◌, drop}
use Rattle.view_planes.specs.Planes.{is_culled}
use Rattle.view_planes.proofs.planes.Planes.is_culled.Given as goal

abbrev pub invariant-loop-plane : goal.invariant-loop-plane
invariant-loop-plane l = is_culled (drop l.plane-index l.self.planes) l.ball ≡ is_culled l.self.planes l.ball

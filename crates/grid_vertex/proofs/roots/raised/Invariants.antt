-- The square of the number is at most n, up to which the number rises.
use Rattle.std.proofs.Common.{◌*◌, ◌-◌, ◌≤◌}
use Rattle.grid_vertex.proofs.roots.raised.Given as goal

abbrev pub invariant-loop-root : goal.invariant-loop-root
invariant-loop-root l = l.root * l.root ≤ l.n

abbrev pub decreases-loop-root : goal.decreases-loop-root
decreases-loop-root l = 4294967295 - l.root

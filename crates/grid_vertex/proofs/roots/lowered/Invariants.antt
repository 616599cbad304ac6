-- The number falls.
use Rattle.grid_vertex.proofs.roots.lowered.Given as goal

abbrev pub decreases-loop-root : goal.decreases-loop-root
decreases-loop-root l = l.root

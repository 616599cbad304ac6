use Rattle.std.proofs.Common.{◌-◌, length}
use Rattle.mesh_graph.proofs.levels.first_open.Given as goal

abbrev pub decreases-loop-place : goal.decreases-loop-place
decreases-loop-place l = length l.patches - l.place

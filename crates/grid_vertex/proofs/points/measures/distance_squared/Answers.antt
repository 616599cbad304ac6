use Rattle.std.proofs.Common.{SFits, w32, rules}
use Rattle.std.proofs.lemmas.Int.{to_z-of_z}
use Rattle.grid_vertex.proofs.Distances.{gap_bound}
use Rattle.grid_vertex.proofs.points.measures.distance_squared.Goals as goal

pub axis_squared-requires-3 : goal.axis_squared-requires-3
axis_squared-requires-3 c =
    let first : SFits w32 c.args.p.z = search rules in
    let second : SFits w32 c.args.q.z = search rules in
    rw (to_z-of_z w32 c.args.p.z first, to_z-of_z w32 c.args.q.z second) (gap_bound c.args.p c.args.q c.requires.first c.requires.second)

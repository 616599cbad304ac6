-- The edges of the keys before this one stand there.
use Rattle.std.proofs.Common.{◌≡◌, map, take}
use Rattle.body_edges.specs.Keys.{edge_between}
use Rattle.body_edges.proofs.borders.push_edges.Given as goal

abbrev pub invariant-loop-key : goal.invariant-loop-key
invariant-loop-key l = l.edges.items ≡ map (edge_between l.body.lists.points) (take l.key-index l.keys)

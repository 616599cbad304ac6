-- The keys of the triangles before this one stand there.
use Rattle.std.proofs.Common.{◌≡◌, take}
use Rattle.body_edges.specs.Keys.{keys_in}
use Rattle.body_edges.proofs.keys.push_keys.Given as goal

abbrev pub invariant-loop-triangle : goal.invariant-loop-triangle
invariant-loop-triangle l = l.keys.items ≡ keys_in (take l.triangle l.body.lists.corners)

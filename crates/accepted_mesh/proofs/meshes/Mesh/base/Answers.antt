-- The root is a node.
use Rattle.std.proofs.Common.{arith}
use Rattle.accepted_mesh.specs.MeshLaws.{root_below}
use Rattle.accepted_mesh.proofs.meshes.Mesh.base.Goals as goal

pub outgoing-requires : goal.outgoing-requires
outgoing-requires c = omega (arith, root_below _ _ c.self.invariant.0.nested, c.self.invariant.0.graph.outgoing_count)

pub returns : goal.returns
returns c =
    let there = c.self.invariant.0.graph.outgoing_is _ (root_below _ _ c.self.invariant.0.nested) in
    rw (← c.self.view_is) (let e = c.outgoing.ensures in cc)

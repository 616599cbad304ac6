-- Nothing leads out of no nodes.
use Rattle.std.proofs.Common.{◌≡◌, false, length, replicate, rules}
use Rattle.cut_refiner.proofs.GrowingCutLaws.{empty_growing}
use Rattle.cut_refiner.proofs.growing_cuts.GrowingCut.empty.Goals as goal

pub returns-clause-growing : goal.returns-clause-growing
returns-clause-growing c =
    let none : c.in_ok-in_cut.in_cut.items ≡ replicate (length c.args.mesh.now.lists.index.nodes) false = search rules in
    rw none (empty_growing c.args.mesh.now.lists c.in_ok-missing.missing.items c.in_ok-missing.ensures)

-- Once the round is through the frame of its set is listed.
use Rattle.std.proofs.Common.{◌∙◌, ap, length, arith}
use Rattle.cut_refiner.proofs.ListedLaws.{patches_listed, patches_few, seen_boundary}
use Rattle.cut_refiner.proofs.refiners.Refiner.patches.Goals as goal

pub returns-clause-patches : goal.returns-clause-patches
returns-clause-patches c =
    c.deref.ensures.value ∙ patches_listed c.self.inside.rules c.self.inside.tries.items c.self.inside.locks.owed c.self.inside.refinement c.self.inside.lists (length c.self.inside.locks.locked) c.self.inside.hand c.args.self.now c.self.view_is c.self.invariant.are c.self.invariant.at c.self.invariant.are_lists c.requires

pub returns-clause-boundary : goal.returns-clause-boundary
returns-clause-boundary c = seen_boundary c.self.inside.rules c.self.inside.tries.items c.self.inside.locks.owed c.args.self.now c.self.view_is c.self.invariant.are

pub returns-clause-few : goal.returns-clause-few
returns-clause-few c =
    omega (arith, ap length c.deref.ensures.value, patches_few c.self.inside.rules c.self.inside.tries.items c.self.inside.locks.owed c.self.inside.refinement c.self.inside.lists (length c.self.inside.locks.locked) c.self.inside.hand c.args.self.now c.self.view_is c.self.invariant.are c.self.invariant.at c.self.invariant.are_lists c.requires)

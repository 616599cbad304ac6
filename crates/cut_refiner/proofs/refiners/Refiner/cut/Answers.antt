-- Once the round is through its set is listed.
use Rattle.std.proofs.Common.{◌∙◌, ap, length, arith}
use Rattle.cut_refiner.proofs.ListedLaws.{nodes_listed, nodes_few, seen_is_cut}
use Rattle.cut_refiner.proofs.refiners.Refiner.cut.Goals as goal

pub returns-clause-nodes : goal.returns-clause-nodes
returns-clause-nodes c =
    c.deref.ensures.value ∙ nodes_listed c.self.inside.rules c.self.inside.tries.items c.self.inside.locks.owed c.self.inside.refinement c.self.inside.lists (length c.self.inside.locks.locked) c.self.inside.hand c.args.self.now c.self.view_is c.self.invariant.are c.self.invariant.at c.self.invariant.are_lists c.requires

pub returns-clause-cut : goal.returns-clause-cut
returns-clause-cut c = seen_is_cut c.self.inside.rules c.self.inside.tries.items c.self.inside.locks.owed c.args.self.now c.self.view_is c.self.invariant.are

pub returns-clause-few : goal.returns-clause-few
returns-clause-few c =
    omega (arith, ap length c.deref.ensures.value, nodes_few c.self.inside.rules c.self.inside.tries.items c.self.inside.locks.owed c.self.inside.refinement c.self.inside.lists (length c.self.inside.locks.locked) c.self.inside.hand c.args.self.now c.self.view_is c.self.invariant.are c.self.invariant.at c.self.invariant.are_lists c.requires)

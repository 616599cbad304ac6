-- The first patch that is owed is owed no more.
use Rattle.std.proofs.Common.{ℕ, List, length, sym, subst, arith}
use Rattle.cut_refiner.specs.Refiners.{IsAt, AreFirst}
use Rattle.cut_refiner.proofs.TellLaws.{gave_is, some_owed}
use Rattle.cut_refiner.proofs.refiners.Refiner.gave_back.Goals as goal

pub give_back-requires : goal.give_back-requires
give_back-requires c = some_owed c.self.inside.rules c.self.inside.tries.items c.self.inside.locks.owed c.args.self.now c.requires.0 c.self.view_is c.requires.1

pub returns : goal.returns
returns c = gave_is c.self.inside.rules c.self.inside.tries.items c.self.inside.locks.owed c.give_back.new.self.owed c.args.self.now c.self.view_is c.give_back.ensures.owed

pub invariant_of-self : goal.invariant_of-self
invariant_of-self c = record {
  are = c.self.invariant.are;
  at = subst (λ (ps : List ℕ). IsAt c.self.inside.rules c.self.inside.tries.items c.self.inside.refinement (length ps) c.self.inside.hand) (sym c.give_back.ensures.locked) c.self.invariant.at;
  room = c.self.invariant.room;
  are_lists = c.self.invariant.are_lists;
  are_first = subst (λ (ps : List ℕ). AreFirst c.self.inside.rules ps c.self.inside.hand) (sym c.give_back.ensures.locked) c.self.invariant.are_first;
  for_each = λ v node. omega (arith, c.self.invariant.for_each v node, c.give_back.ensures.room);
}

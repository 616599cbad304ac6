-- One patch less is owed.
use Rattle.std.proofs.Common.{◌∙◌, ap, arith, drop, length}
use Rattle.std.proofs.lemmas.List.{length-drop}
use Rattle.cut_refiner.specs.Locks.{LockLists}
use Rattle.cut_refiner.proofs.LockLaws.{drop_one}
use Rattle.cut_refiner.proofs.locks.Locks.give_back.Goals as goal

pub overflow_add-self : goal.overflow_add-self
overflow_add-self c =
    omega (arith, c.requires, ap (λ (l : LockLists). length l.owed) c.self.view_is, length-drop c.self.inside.given_back c.self.inside.missed.items, c.len-many.ensures.value, c.len-many.type_inv)

pub returns-clause-owed : goal.returns-clause-owed
returns-clause-owed c = drop_one c.self.inside.given_back c.self.inside.missed.items ∙ ap (λ (l : LockLists). drop 1 l.owed) c.self.view_is

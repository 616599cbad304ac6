use Rattle.token_table.specs.Seats.{IsIdle}
use Rattle.token_table.proofs.tests.lock_often.Given as goal

abbrev pub invariant-loop-time : goal.invariant-loop-time
invariant-loop-time l = IsIdle l.table l.seat

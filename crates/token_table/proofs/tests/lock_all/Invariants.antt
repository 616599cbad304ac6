use Rattle.std.proofs.Common.{All}
use Rattle.token_table.specs.Seats.{IsIdle}
use Rattle.token_table.proofs.tests.lock_all.Given as goal

abbrev pub invariant-loop-seat : goal.invariant-loop-seat
invariant-loop-seat g l = All (IsIdle l.table) l.seats.items

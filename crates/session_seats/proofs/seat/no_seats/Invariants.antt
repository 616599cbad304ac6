-- The seats so far are empty.
use Rattle.std.proofs.Common.{◌≡◌, None, replicate}
use Rattle.session_seats.proofs.seat.no_seats.Given as goal

abbrev pub invariant-loop-session : goal.invariant-loop-session
invariant-loop-session l = l.seats.items ≡ replicate l._session None

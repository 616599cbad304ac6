-- A machine that has just opened has no open session, and its board has the version 0.
use Rattle.std.proofs.Common.{◌≡◌, ℕ, None, ap, arith}
use Rattle.run_model.specs.RunTexts.{IsOpening}
use Rattle.run_model.specs.States.{State, opening}
use Rattle.session_seats.specs.Seats.{at_seat, state_of}
use Rattle.view_machine.specs.Machines.{MachineSeen, world_of, run_state}
use Rattle.live_tests.proofs.tests.driven.Goals as goal

none_open : {S : Type 0} (m : MachineSeen S) → IsOpening (world_of m) (run_state m) → (i : ℕ) → at_seat m.seats.sessions i ≡ None
unfolding state_of opening
none_open m opens i = ap (λ (s : State). s.sessions i) opens.is

first_version : {S : Type 0} (m : MachineSeen S) → IsOpening (world_of m) (run_state m) → m.board.version ≡ 0
unfolding state_of opening
first_version m opens = ap (λ (s : State). s.version) opens.is

pub drive-requires-clause-closed : goal.drive-requires-clause-closed
drive-requires-clause-closed c = none_open c.in-Ok.machine c.in-Ok.ensures.opens.opening

pub drive-requires-clause-few : goal.drive-requires-clause-few
drive-requires-clause-few c = let first = first_version c.in-Ok.machine c.in-Ok.ensures.opens.opening in omega arith

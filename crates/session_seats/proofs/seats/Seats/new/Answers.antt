use Rattle.session_seats.proofs.SeenLaws.{none_are}
use Rattle.session_seats.proofs.seats.Seats.new.Goals as goal

pub invariant_of-result : goal.invariant_of-result
invariant_of-result c = none_are c.args.mesh.now.lists c.in_ok-seats.seats.items c.in_ok-seats.ensures

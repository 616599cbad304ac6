use Rattle.std.proofs.Common.{subst, sym}
use Rattle.session_seats.specs.Seats.{SeatsSeen, HasView}
use Rattle.two_eyes.proofs.LookingLaws.{looks_on}
use Rattle.two_eyes.proofs.look.Goals as goal

pub show-requires-clause-view : goal.show-requires-clause-view
show-requires-clause-view g c =
    subst (λ (seats : SeatsSeen). HasView seats.sessions c.args.session) (sym c.settle_tiers.ensures.seats) (looks_on c.args.machine.now.seats.sessions c.args.session c.requires.looks)

use Rattle.std.proofs.Common.{◌≡◌, None, sym, ap, ◌∙◌}
use Rattle.session_model.specs.Sessions.{SessionState}
use Rattle.session_seats.proofs.Calls.{none_missing}
use Rattle.session_seats.proofs.SeenLaws.{seat_seen, round_missing}
use Rattle.session_seats.proofs.seats.Seats.round.Goals as goal

pub unreachable-requires : goal.unreachable-requires
unreachable-requires c =
    let i = c.self.inside in
    let same = seat_seen i.mesh.now.lists i.seats.items c.args.self.now c.self.view_is c.self.invariant c.args.session c.requires.session c.requires.at c.index.result.now c.index.ensures c.in-Some.seat c.in-Some.is in
    let none : c.in-Some.seat.session.state.round ≡ None = c.in-None-round.ensures in
    round_missing c.in-Some.seat.session.state c.requires.session c.requires.round same c.requires.there none

pub unreachable-requires-in-None : goal.unreachable-requires-in-None
unreachable-requires-in-None c =
    let i = c.self.inside in
    none_missing i.mesh.now.lists i.seats.items c.args.self.now c.self.view_is c.self.invariant c.args.session c.requires.session c.requires.at c.index.result.now c.index.ensures c.in-None.is

pub returns : goal.returns
returns c = λ s at.
    let i = c.self.inside in
    let same = seat_seen i.mesh.now.lists i.seats.items c.args.self.now c.self.view_is c.self.invariant c.args.session s at c.index.result.now c.index.ensures c.in-Some.seat c.in-Some.is in
    sym (ap (λ (x : SessionState). x.round) same) ∙ c.in-Some-round.ensures

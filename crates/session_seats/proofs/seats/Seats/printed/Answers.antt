use Rattle.std.proofs.Common.{sym, subst}
use Rattle.session_model.specs.Sessions.{printed_once}
use Rattle.session_locks.specs.Sessions.{IsDone}
use Rattle.session_seats.proofs.Calls.{none_missing}
use Rattle.session_seats.proofs.SeenLaws.{seen_many, seen_number, seat_seen, seen_at, seats_changed, seen_changed, seated_printed, told_as_printed}
use Rattle.session_seats.proofs.seats.Seats.printed.Goals as goal

pub printed-requires-clause-done : goal.printed-requires-clause-done
printed-requires-clause-done c =
    let i = c.self.inside in
    let d = c.requires.done in
    let same = seat_seen i.mesh.now.lists i.seats.items c.args.self.now c.self.view_is c.self.invariant c.args.session d.session d.at c.index_mut.result.now c.index_mut.ensures.value c.in-Some.seat c.in-Some.is in
    subst IsDone (sym same) (record { round = d.done.round; there = d.done.there; done = d.done.done })

pub printed-requires-clause-few : goal.printed-requires-clause-few
printed-requires-clause-few c =
    let i = c.self.inside in
    let d = c.requires.done in
    c.requires.few c.in-Some.seat.session.state (seen_at i.mesh.now.lists i.seats.items c.args.self.now c.self.view_is c.self.invariant c.args.session d.session d.at c.index_mut.result.now c.index_mut.ensures.value c.in-Some.seat c.in-Some.is)

pub unreachable-requires : goal.unreachable-requires
unreachable-requires c =
    let i = c.self.inside in
    let d = c.requires.done in
    none_missing i.mesh.now.lists i.seats.items c.args.self.now c.self.view_is c.self.invariant c.args.session d.session d.at c.index_mut.result.now c.index_mut.ensures.value c.in-None.is

pub invariant_of-self : goal.invariant_of-self
invariant_of-self c =
    let i = c.self.inside in
    let d = c.requires.done in
    seats_changed i.mesh.now.lists i.seats.items c.args.self.now c.self.view_is c.self.invariant c.args.session d.session d.at c.index_mut.result.now c.index_mut.ensures.value c.in-Some.seat c.in-Some.is printed_once c.printed.new.self c.printed.ensures.state

pub returns-clause-printed : goal.returns-clause-printed
returns-clause-printed c =
    let i = c.self.inside in
    let d = c.requires.done in
    seen_changed i.mesh.now.lists i.seats.items c.args.self.now c.self.view_is c.self.invariant c.args.session d.session d.at c.index_mut.result.now c.index_mut.ensures.value c.in-Some.seat c.in-Some.is printed_once c.printed.new.self c.printed.ensures.state

pub returns-clause-seated : goal.returns-clause-seated
returns-clause-seated c = λ words are.
    let i = c.self.inside in
    let d = c.requires.done in
    let goes = seen_changed i.mesh.now.lists i.seats.items c.args.self.now c.self.view_is c.self.invariant c.args.session d.session d.at c.index_mut.result.now c.index_mut.ensures.value c.in-Some.seat c.in-Some.is printed_once c.printed.new.self c.printed.ensures.state d.session d.at in
    seated_printed c.args.self.now (seen_many i.mesh.now.lists i.seats.items c.args.self.now c.self.view_is c.self.invariant) c.args.session (seen_number i.mesh.now.lists i.seats.items c.args.self.now c.self.view_is c.self.invariant c.args.session d.session d.at) d.session d.at words are _ goes

pub returns-clause-told : goal.returns-clause-told
returns-clause-told c = λ told tells.
    let i = c.self.inside in
    let d = c.requires.done in
    let goes = seen_changed i.mesh.now.lists i.seats.items c.args.self.now c.self.view_is c.self.invariant c.args.session d.session d.at c.index_mut.result.now c.index_mut.ensures.value c.in-Some.seat c.in-Some.is printed_once c.printed.new.self c.printed.ensures.state d.session d.at in
    told_as_printed c.args.self.now (seen_many i.mesh.now.lists i.seats.items c.args.self.now c.self.view_is c.self.invariant) c.args.session (seen_number i.mesh.now.lists i.seats.items c.args.self.now c.self.view_is c.self.invariant c.args.session d.session d.at) d.session d.at told tells _ goes

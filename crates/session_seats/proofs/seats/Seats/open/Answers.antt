use Rattle.session_seats.proofs.OpenLaws.{seats_opened, open_does, open_seated, open_told}
use Rattle.session_seats.proofs.seats.Seats.open.Goals as goal

pub invariant_of-self : goal.invariant_of-self
invariant_of-self c =
    let i = c.self.inside in
    let e = c.in_ok-seat.ensures in
    seats_opened i.mesh.now.lists i.seats.items c.args.self.now c.self.view_is c.self.invariant c.args.session c.requires.number c.in_ok-seat.seat e.session e.pass

pub returns-clause-does : goal.returns-clause-does
returns-clause-does c =
    let i = c.self.inside in
    let e = c.in_ok-seat.ensures in
    open_does i.mesh.now.lists i.seats.items c.args.self.now c.self.view_is c.self.invariant c.args.session c.requires.number c.in_ok-seat.seat e.session e.pass c.args.words.now c.requires.closed e.unlocked c.requires.seated

pub returns-clause-seated : goal.returns-clause-seated
returns-clause-seated c =
    let i = c.self.inside in
    let e = c.in_ok-seat.ensures in
    open_seated i.mesh.now.lists i.seats.items c.args.self.now c.self.view_is c.self.invariant c.args.session c.requires.number c.in_ok-seat.seat e.session e.pass c.args.words.now c.requires.closed e.unlocked c.requires.seated

pub returns-clause-told : goal.returns-clause-told
returns-clause-told c =
    let i = c.self.inside in
    let e = c.in_ok-seat.ensures in
    open_told i.mesh.now.lists i.seats.items c.args.self.now c.self.view_is c.self.invariant c.args.session c.requires.number c.in_ok-seat.seat e.session e.pass c.args.words.now c.requires.closed e.unlocked c.requires.seated

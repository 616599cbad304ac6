use Rattle.session_model.specs.Sessions.{with_view}
use Rattle.session_seats.proofs.Calls.{none_missing}
use Rattle.session_seats.proofs.SeenLaws.{seats_changed, seen_changed}
use Rattle.session_seats.proofs.seats.Seats.see.Goals as goal

pub unreachable-requires : goal.unreachable-requires
unreachable-requires c =
    let i = c.self.inside in
    none_missing i.mesh.now.lists i.seats.items c.args.self.now c.self.view_is c.self.invariant c.args.session c.requires.session c.requires.at c.index_mut.result.now c.index_mut.ensures.value c.in-None.is

pub invariant_of-self : goal.invariant_of-self
invariant_of-self c =
    let i = c.self.inside in
    seats_changed i.mesh.now.lists i.seats.items c.args.self.now c.self.view_is c.self.invariant c.args.session c.requires.session c.requires.at c.index_mut.result.now c.index_mut.ensures.value c.in-Some.seat c.in-Some.is (with_view c.args.view) c.set_view.new.self c.set_view.ensures.state

pub returns : goal.returns
returns c =
    let i = c.self.inside in
    seen_changed i.mesh.now.lists i.seats.items c.args.self.now c.self.view_is c.self.invariant c.args.session c.requires.session c.requires.at c.index_mut.result.now c.index_mut.ensures.value c.in-Some.seat c.in-Some.is (with_view c.args.view) c.set_view.new.self c.set_view.ensures.state

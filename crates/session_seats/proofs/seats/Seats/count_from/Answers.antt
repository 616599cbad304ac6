use Rattle.session_model.specs.Sessions.{counted_from}
use Rattle.session_seats.proofs.Calls.{none_missing}
use Rattle.session_seats.proofs.SeenLaws.{seen_many, seen_number, seats_changed, seen_changed, seated_counted, told_as_counted}
use Rattle.session_seats.proofs.seats.Seats.count_from.Goals as goal

pub unreachable-requires : goal.unreachable-requires
unreachable-requires c =
    let i = c.self.inside in
    none_missing i.mesh.now.lists i.seats.items c.args.self.now c.self.view_is c.self.invariant c.args.session c.requires.session c.requires.at c.index_mut.result.now c.index_mut.ensures.value c.in-None.is

pub invariant_of-self : goal.invariant_of-self
invariant_of-self c =
    let i = c.self.inside in
    seats_changed i.mesh.now.lists i.seats.items c.args.self.now c.self.view_is c.self.invariant c.args.session c.requires.session c.requires.at c.index_mut.result.now c.index_mut.ensures.value c.in-Some.seat c.in-Some.is (counted_from c.args.frames) c.count_from.new.self c.count_from.ensures.state

pub returns-clause-counted : goal.returns-clause-counted
returns-clause-counted c =
    let i = c.self.inside in
    seen_changed i.mesh.now.lists i.seats.items c.args.self.now c.self.view_is c.self.invariant c.args.session c.requires.session c.requires.at c.index_mut.result.now c.index_mut.ensures.value c.in-Some.seat c.in-Some.is (counted_from c.args.frames) c.count_from.new.self c.count_from.ensures.state

pub returns-clause-seated : goal.returns-clause-seated
returns-clause-seated c = λ words are.
    let i = c.self.inside in
    let goes = seen_changed i.mesh.now.lists i.seats.items c.args.self.now c.self.view_is c.self.invariant c.args.session c.requires.session c.requires.at c.index_mut.result.now c.index_mut.ensures.value c.in-Some.seat c.in-Some.is (counted_from c.args.frames) c.count_from.new.self c.count_from.ensures.state c.requires.session c.requires.at in
    seated_counted c.args.self.now (seen_many i.mesh.now.lists i.seats.items c.args.self.now c.self.view_is c.self.invariant) c.args.session (seen_number i.mesh.now.lists i.seats.items c.args.self.now c.self.view_is c.self.invariant c.args.session c.requires.session c.requires.at) c.requires.session c.requires.at c.args.frames words are _ goes

pub returns-clause-told : goal.returns-clause-told
returns-clause-told c = λ told tells.
    let i = c.self.inside in
    let goes = seen_changed i.mesh.now.lists i.seats.items c.args.self.now c.self.view_is c.self.invariant c.args.session c.requires.session c.requires.at c.index_mut.result.now c.index_mut.ensures.value c.in-Some.seat c.in-Some.is (counted_from c.args.frames) c.count_from.new.self c.count_from.ensures.state c.requires.session c.requires.at in
    told_as_counted c.args.self.now (seen_many i.mesh.now.lists i.seats.items c.args.self.now c.self.view_is c.self.invariant) c.args.session (seen_number i.mesh.now.lists i.seats.items c.args.self.now c.self.view_is c.self.invariant c.args.session c.requires.session c.requires.at) c.requires.session c.requires.at c.args.frames told tells _ goes

pub returns-clause-facts : goal.returns-clause-facts
returns-clause-facts c = let i = c.self.inside in seen_many i.mesh.now.lists i.seats.items c.args.self.now c.self.view_is c.self.invariant

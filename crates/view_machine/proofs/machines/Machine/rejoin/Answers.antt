use Rattle.std.proofs.Common.{◌<◌, ◌^◌, Some, sym, subst}
use Rattle.wish_board.specs.Boards.{BoardSeen}
use Rattle.session_seats.specs.Seats.{seat_told}
use Rattle.session_seats.specs.SeatLaws.{open_where_told}
use Rattle.session_model.specs.Told.{just_opened, told_view, told_from}
use Rattle.view_machine.specs.Machines.{world_of, run_state}
use Rattle.view_machine.specs.RejoinLines.{rejoins_by, set_twice}
use Rattle.view_machine.proofs.machines.Machine.rejoin.Goals as goal

pub set_view-requires-clause-open : goal.set_view-requires-clause-open
set_view-requires-clause-open g c = open_where_told c.open_session.new.self.seats.sessions c.args.session just_opened c.in_ok-open_session.ensures.told.here

pub set_view-requires-clause-few : goal.set_view-requires-clause-few
set_view-requires-clause-few g c = subst (λ (board : BoardSeen). board.version < 2 ^ 63) (sym c.in_ok-open_session.ensures.board) c.requires.few

pub count_from-requires : goal.count_from-requires
count_from-requires g c =
    let told = c.in_ok-set_view.ensures.told just_opened c.in_ok-open_session.ensures.told.here in
    open_where_told c.set_view.new.self.seats.sessions c.args.session (told_view just_opened c.args.view) told.here

pub returns-clause-rejoins : goal.returns-clause-rejoins
returns-clause-rejoins g c =
    let old = c.args.self.now in
    let mid = c.open_session.new.self in
    let viewed = c.set_view.new.self in
    rejoins_by (world_of old) (world_of mid) (run_state old) (run_state mid) (run_state viewed) (run_state c.count_from.new.self)
    c.args.session c.args.frames c.args.view c.open_session.ensures.place.world c.in_ok-open_session.ensures.does
    c.in_ok-set_view.ensures.does c.count_from.ensures.state

pub returns-clause-told : goal.returns-clause-told
returns-clause-told g c =
    let old = c.args.self.now in
    let mid = c.open_session.new.self in
    let viewed = c.set_view.new.self in
    let opened = c.in_ok-open_session.ensures.told in
    let told = c.in_ok-set_view.ensures.told just_opened opened.here in
    let view = told_view just_opened c.args.view in
    set_twice (seat_told old.seats.sessions) (seat_told viewed.seats.sessions) (seat_told c.count_from.new.self.seats.sessions) c.args.session (Some view) (Some (told_from view c.args.frames))
    (set_twice (seat_told old.seats.sessions) (seat_told mid.seats.sessions) (seat_told viewed.seats.sessions) c.args.session (Some just_opened) (Some view) opened told)
    (c.count_from.ensures.told view told.here)

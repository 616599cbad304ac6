-- Session 1 opens, and its view is set.
use Rattle.std.proofs.Common.{ℕ, ◌<◌, ◌^◌, Some, ap, subst, arith}
use Rattle.round_model.specs.Views.{ViewSeen}
use Rattle.script_model.specs.declared.orders.Order.TheVariants as orders
use Rattle.token_words.specs.Changes.{SetAt}
use Rattle.wish_board.specs.Boards.{BoardSeen}
use Rattle.session_seats.specs.Seats.{seat_told}
use Rattle.session_model.specs.Told.{just_opened, told_view}
use Rattle.view_machine.specs.LineTells.{DoesLine}
use Rattle.view_machine.specs.Machines.{world_of, run_state}
use Rattle.bench_run.specs.Begun.{told_open, has_begun}
use Rattle.bench_run.proofs.runs.begin.Goals as goal

pub view-requires-clause-open : goal.view-requires-clause-open
view-requires-clause-open c = told_open c.open.new.self.seats.sessions 1 just_opened c.in_ok-open.ensures.told.here

pub view-requires-clause-few : goal.view-requires-clause-few
view-requires-clause-few c =
    let same = ap (λ (board : BoardSeen). board.version) c.open.ensures.board in
    let none = c.requires.opens.version in
    omega (arith, same, none)

pub returns : goal.returns
returns c =
    let old = c.args.machine.now in
    let mid = c.open.new.self in
    let new = c.view.new.self in
    has_begun c.args.columns old mid new c.in_ok-open.field-0.items c.in_ok-view.field-0.items c.open.ensures.place c.view.ensures.place c.in_ok-open.ensures.line
    (subst (λ (v : ViewSeen). DoesLine (world_of mid) (orders.View 1 v) (run_state mid) (run_state new) c.in_ok-view.field-0.items) c.view_of_all.ensures c.in_ok-view.ensures.line)
    (subst (λ (v : ViewSeen). SetAt (seat_told mid.seats.sessions) 1 (Some (told_view just_opened v)) (seat_told new.seats.sessions)) c.view_of_all.ensures (c.in_ok-view.ensures.told just_opened c.in_ok-open.ensures.told.here))

use Rattle.std.proofs.Common.{◌≡◌, ℕ, ◌^◌, ◌<◌, Some, refl, sym, ap, ◌∙◌, arith}
use Rattle.session_model.specs.Told.{just_opened, told_view, one_frame_more}
use Rattle.wish_board.specs.Boards.{BoardSeen}
use Rattle.two_eyes.proofs.LookingLaws.{told_open, still_closed, looks_told}
use Rattle.two_eyes.proofs.watch.Goals as goal

pub join-requires-clause-few : goal.join-requires-clause-few
join-requires-clause-few g c = rw c.requires.few (omega arith)

pub join-requires-2-clause-closed : goal.join-requires-2-clause-closed
join-requires-2-clause-closed g c =
    still_closed c.args.machine.now.seats.sessions c.join.new.machine.seats.sessions 1 2 _ c.in_ok-join.ensures.joined (λ same. cc) (c.requires.closed 2)

pub join-requires-2-clause-few : goal.join-requires-2-clause-few
join-requires-2-clause-few g c =
    let none = c.requires.few in
    let one = c.join.ensures.version in
    omega (arith, none, one)

pub join-requires-clause-closed : goal.join-requires-clause-closed
join-requires-clause-closed g c = c.requires.closed 1

pub look-requires : goal.look-requires
look-requires g c =
    let is = c.in_ok-join-2.ensures.joined.others 1 (λ same. cc) ∙ c.in_ok-join.ensures.joined.here in
    record { looks = looks_told c.join-2.new.machine.seats.sessions 1 (told_view just_opened c.args.near) c.args.near is refl (omega arith) }

pub look-requires-2 : goal.look-requires-2
look-requires-2 g c =
    let first = c.in_ok-join-2.ensures.joined.others 1 (λ same. cc) ∙ c.in_ok-join.ensures.joined.here in
    let looked = c.in_ok-first.ensures.told (told_view just_opened c.args.near) first in
    let is = looked.others 2 (λ same. cc) ∙ c.in_ok-join-2.ensures.joined.here in
    record { looks = looks_told c.look.new.machine.seats.sessions 2 (told_view just_opened c.args.far) c.args.far is refl (omega arith) }

pub set_view-requires-clause-open : goal.set_view-requires-clause-open
set_view-requires-clause-open g c =
    let first = c.in_ok-join-2.ensures.joined.others 1 (λ same. cc) ∙ c.in_ok-join.ensures.joined.here in
    let looked = c.in_ok-first.ensures.told (told_view just_opened c.args.near) first in
    let second = looked.others 2 (λ same. cc) ∙ c.in_ok-join-2.ensures.joined.here in
    let also = c.in_ok-second.ensures.told (told_view just_opened c.args.far) second in
    told_open c.look-2.new.machine.seats.sessions 1 (one_frame_more (told_view just_opened c.args.near)) (also.others 1 (λ same. cc) ∙ looked.here)

pub look-requires-3 : goal.look-requires-3
look-requires-3 g c =
    let first = c.in_ok-join-2.ensures.joined.others 1 (λ same. cc) ∙ c.in_ok-join.ensures.joined.here in
    let looked = c.in_ok-first.ensures.told (told_view just_opened c.args.near) first in
    let second = looked.others 2 (λ same. cc) ∙ c.in_ok-join-2.ensures.joined.here in
    let also = c.in_ok-second.ensures.told (told_view just_opened c.args.far) second in
    let before = also.others 1 (λ same. cc) ∙ looked.here in
    let set = c.in_ok-set_view.ensures.told (one_frame_more (told_view just_opened c.args.near)) before in
    record { looks = looks_told c.set_view.new.self.seats.sessions 1 (told_view (one_frame_more (told_view just_opened c.args.near)) c.args.far) c.args.far set.here refl (omega arith) }

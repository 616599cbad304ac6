use Rattle.std.proofs.Common.{ℕ, ◌<◌, ◌^◌, sym, subst}
use Rattle.view_machine.specs.LineHistories.{frames_kept}
use Rattle.view_machine.specs.FrameLines.{place_then, finished_done, finished_many, told_then}
use Rattle.view_machine.specs.ShownFrames.{shown_line}
use Rattle.view_machine.proofs.machines.Machine.show.Goals as goal

pub shown_of_round-requires-clause-done : goal.shown_of_round-requires-clause-done
shown_of_round-requires-clause-done g c =
    let old = c.args.self.now in
    let mid = c.finish_session.new.self in
    finished_done c.args.session old.words old.seats mid.words mid.seats c.in_ok-finish_session.ensures.round

pub shown_of_round-requires-clause-few : goal.shown_of_round-requires-clause-few
shown_of_round-requires-clause-few g c =
    let old = c.args.self.now in
    let mid = c.finish_session.new.self in
    subst (λ (n : ℕ). n < 2 ^ 63) (sym (frames_kept old.seats.sessions mid.seats.sessions c.finish_session.ensures.told c.args.session)) c.requires.few

pub print_session-requires-clause-done : goal.print_session-requires-clause-done
print_session-requires-clause-done g c =
    let old = c.args.self.now in
    let mid = c.finish_session.new.self in
    finished_done c.args.session old.words old.seats mid.words mid.seats c.in_ok-finish_session.ensures.round

pub print_session-requires-clause-few : goal.print_session-requires-clause-few
print_session-requires-clause-few g c =
    let old = c.args.self.now in
    let mid = c.finish_session.new.self in
    subst (λ (n : ℕ). n < 2 ^ 63) (sym (frames_kept old.seats.sessions mid.seats.sessions c.finish_session.ensures.told c.args.session)) c.requires.few

pub print_session-requires-clause-seats : goal.print_session-requires-clause-seats
print_session-requires-clause-seats g c =
    let old = c.args.self.now in
    let mid = c.finish_session.new.self in
    finished_many c.args.session old.words old.seats mid.words mid.seats c.in_ok-finish_session.ensures.round

pub returns-clause-line : goal.returns-clause-line
returns-clause-line g c =
    let old = c.args.self.now in
    let mid = c.finish_session.new.self in
    let new = c.print_session.new.self in
    let e = c.in_ok-finish_session.ensures in
    let round = e.round in
    shown_line old mid new c.args.session c.in_ok-shown.shown e.place e.board e.chain c.print_session.ensures.chain round
    (c.print_session.ensures.does old.words old.seats e.mesh round)
    (c.in_ok-shown.ensures round.last round.done round.is)

pub returns-clause-told : goal.returns-clause-told
returns-clause-told g c =
    let old = c.args.self.now in
    let mid = c.finish_session.new.self in
    let new = c.print_session.new.self in
    told_then old.seats.sessions mid.seats.sessions new.seats.sessions c.args.session c.finish_session.ensures.told c.print_session.ensures.told

pub returns-clause-place : goal.returns-clause-place
returns-clause-place g c = place_then c.args.self.now c.finish_session.new.self c.print_session.new.self c.finish_session.ensures.place c.print_session.ensures.place

use Rattle.std.proofs.Common.{refl, sym, subst}
use Rattle.std.proofs.lemmas.Result.{on_ok_weaker}
use Rattle.token_table.specs.Seats.{SessionSeen as SeatSeen}
use Rattle.shared_sessions.specs.SharedSeats.{HasSeatOr, IsSeatedOr}
use Rattle.shared_sessions.specs.SessionLines.{opening_has}
use Rattle.session_runs.specs.SetupWorlds.{setup_world, words_suffice}
use Rattle.session_runs.proofs.serving.serve_order.Goals as goal

pub returns-in-None-clause-pass : goal.returns-in-None-clause-pass
returns-in-None-clause-pass g c =
    let table = c.args.table.now in
    let mesh = c.args.mesh.now.lists in
    let seat = c.args.seat in
    let served = c.serve_closed.result in
    let idle = subst (IsSeatedOr table mesh c.args.number seat) c.in-None.is c.requires.stands in
    let many = words_suffice table g.N.Naming.table mesh g.N.Naming.setup c.requires.table
    c.requires.mesh g.N.Naming.fits in
    subst (λ (s : SeatSeen). HasSeatOr table s served.session) (sym c.serve_closed.ensures.seat)
    (opening_has served.end table mesh c.args.number seat served.session
    (on_ok_weaker served.end (λ serves. (serves table (setup_world g.N.Naming.setup mesh) refl idle many).stands)
    c.serve_closed.ensures.ok)
    c.serve_closed.ensures.none idle)

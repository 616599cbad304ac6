use Rattle.std.proofs.Common.{ℕ, List, Vec, Global, Err}
use Rattle.live_machine.specs.Obeying.{show_gives, show_stops}
use Rattle.live_machine.proofs.obeying.show_frame.Goals as goal

abbrev items : Vec ℕ Global → List ℕ
items v = v.items

pub returns-in-Ok : goal.returns-in-Ok
returns-in-Ok g c =
    let e = c.show.ensures in
    show_gives g.S.Store.files g.S.Store.faults g.S.Store.taken c.args.machine.now c.show.new.self c.frame_text.result items c.args.session c.requires.view
    c.in-Ok.frame c.in-Ok.ensures.line c.frame_text.ensures c.in-Ok.ensures.told e.place e.board e.chain

pub returns-in-Err : goal.returns-in-Err
returns-in-Err g c =
    let e = c.show.ensures in
    show_stops g.S.Store.files g.S.Store.faults g.S.Store.taken c.args.machine.now c.show.new.self (Err c.in-Err.error) items c.args.session c.requires.view
    (tt {0}) c.in-Err.ensures.none c.in-Err.ensures.unprinted e.place e.board e.chain

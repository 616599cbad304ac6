use Rattle.std.proofs.Common.{ℕ, List, Vec, Global, Err}
use Rattle.live_machine.specs.Obeying.{turns_gives, turns_stop}
use Rattle.live_machine.proofs.obeying.turn_rounds.Goals as goal

abbrev items : Vec ℕ Global → List ℕ
items v = v.items

pub returns-in-Ok : goal.returns-in-Ok
returns-in-Ok g c =
    let e = c.turn_rounds.ensures in
    turns_gives g.S.Store.files g.S.Store.faults g.S.Store.taken c.args.machine.now c.turn_rounds.new.self c.end_rounds.result items c.args.rounds
    c.new-text.result.items c.turn_rounds.new.out.items c.new-text.ensures.items c.in-Ok.ensures.rounds c.end_rounds.ensures e.place e.seats e.board e.files e.later

pub returns-in-Err : goal.returns-in-Err
returns-in-Err g c =
    let e = c.turn_rounds.ensures in
    turns_stop g.S.Store.files g.S.Store.faults g.S.Store.taken c.args.machine.now c.turn_rounds.new.self (Err c.in-Err.error) items c.args.rounds
    (tt {0}) c.in-Err.ensures.none e.place e.seats e.board e.files e.later

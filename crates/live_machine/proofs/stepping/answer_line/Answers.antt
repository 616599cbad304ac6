use Rattle.std.proofs.Common.{ℕ, List, Vec, Global, Err, sym, ◌∙◌}
use Rattle.live_model.specs.Places.{place_of}
use Rattle.view_machine.specs.Machines.{world_of, run_state}
use Rattle.live_machine.specs.Answering.{read_is_allowed, still_answers}
use Rattle.live_machine.proofs.stepping.answer_line.Goals as goal

abbrev items : Vec ℕ Global → List ℕ
items v = v.items

pub answer-requires-clause-allowed : goal.answer-requires-clause-allowed
answer-requires-clause-allowed g c = λ order is.
    let m = c.args.machine.now in
    read_is_allowed (place_of (world_of m) (run_state m)) c.args.line.now order (sym c.in-Ok.ensures ∙ is)

pub returns-in-Ok : goal.returns-in-Ok
returns-in-Ok g c = c.answer.ensures c.args.line.now c.in-Ok.ensures

pub returns-in-Err : goal.returns-in-Err
returns-in-Err g c = still_answers g.S.Store.files g.S.Store.faults c.args.line.now c.args.machine.now c.args.sessions.now (Err c.in-Err.error) items c.requires.history (tt {0})

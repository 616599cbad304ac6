use Rattle.std.proofs.Common.{◌≡◌, ℕ, List, Vec, Global, Option, Some, None, Result, Ok, Err, ◌∙◌}
use Rattle.text_model.specs.declared.faults.ScriptFault.{ScriptFault}
use Rattle.live_model.specs.declared.orders.LiveOrder.{LiveOrder}
use Rattle.view_machine.specs.Machines.{world_of, run_state}
use Rattle.view_machine.specs.TurnClauses.{if_ok_then}
use Rattle.live_machine.specs.Answering.{order_answers, still_answers, skips_line, refuses_line}
use Rattle.live_machine.proofs.answering.answer.Goals as goal

abbrev items : Vec ℕ Global → List ℕ
items v = v.items

abbrev Judged : Type 0
Judged = Result (Option LiveOrder) ScriptFault

pub returns-in-Ok-Some : goal.returns-in-Ok-Some
returns-in-Ok-Some g c = λ line read.
    let m = c.args.machine.now in
    let new = c.answer_order.new.machine in
    let judged : Judged = Ok (Some c.in-Ok-Some.order) in
    let is : judged ≡ c.args.judged = cc in
    order_answers line c.in-Ok-Some.order m new c.answer_order.new.sessions (g.S.Store.files m.chain.store) (g.S.Store.files new.chain.store) (g.S.Store.faults m.chain.store) (g.S.Store.faults new.chain.store) c.answer_order.result items
    (is ∙ read) c.answer_order.ensures.obeys c.answer_order.ensures.history

pub returns-in-Ok-None : goal.returns-in-Ok-None
returns-in-Ok-None g c = λ line read.
    let m = c.args.machine.now in
    let judged : Judged = Ok None in
    let is : judged ≡ c.args.judged = cc in
    still_answers g.S.Store.files g.S.Store.faults line m c.args.sessions.now (Ok c.new.result) items c.requires.history
    (skips_line (world_of m) (run_state m) line c.new.result.items (is ∙ read) c.new.ensures.items)

pub returns-in-Err : goal.returns-in-Err
returns-in-Err g c = λ line read.
    let m = c.args.machine.now in
    let judged : Judged = Err c.in-Err.fault in
    let is : judged ≡ c.args.judged = cc in
    still_answers g.S.Store.files g.S.Store.faults line m c.args.sessions.now c.refused_text.result items c.requires.history
    (if_ok_then c.refused_text.result (λ x text. refuses_line (world_of m) (run_state m) line x.items c.in-Err.fault (is ∙ read) text) c.refused_text.ensures)

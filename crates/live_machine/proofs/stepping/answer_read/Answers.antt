use Rattle.std.proofs.Common.{ℕ, List, Vec, Global, sym, subst}
use Rattle.live_machine.specs.Answering.{AnswerGives}
use Rattle.live_machine.specs.Stepping.{line_read, long_read}
use Rattle.live_machine.proofs.stepping.answer_read.Goals as goal

abbrev items : Vec ℕ Global → List ℕ
items v = v.items

pub returns-in-Line : goal.returns-in-Line
returns-in-Line g c = λ line read.
    let m = c.args.machine.now in
    let new = c.answer_line.new.machine in
    subst (λ (l : List ℕ). AnswerGives l m new c.answer_line.new.sessions (g.S.Store.files m.chain.store) (g.S.Store.files new.chain.store) (g.S.Store.faults m.chain.store) (g.S.Store.faults new.chain.store) c.answer_line.result items)
    (sym (line_read c.args.found line c.args.held.now c.in-Line.is read)) c.answer_line.ensures

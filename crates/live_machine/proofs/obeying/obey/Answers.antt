use Rattle.std.proofs.Common.{ℕ, List, Vec, Global}
use Rattle.live_model.specs.declared.orders.LiveOrder.TheVariants as live
use Rattle.live_machine.specs.Obeying.{play_gives, body_gives, obey_as, play_allowed, show_viewed}
use Rattle.live_machine.proofs.obeying.obey.Goals as goal

abbrev items : Vec ℕ Global → List ℕ
items v = v.items

pub line_output-requires-clause-allowed : goal.line_output-requires-clause-allowed
line_output-requires-clause-allowed g c = play_allowed c.args.machine.now c.args.order.now c.in-Play.order c.in-Play.is c.requires.allowed

pub show_frame-requires-clause-view : goal.show_frame-requires-clause-view
show_frame-requires-clause-view g c = show_viewed c.args.machine.now c.args.order.now c.in-Show.session c.in-Show.is c.requires.allowed

pub returns-in-Play : goal.returns-in-Play
returns-in-Play g c =
    let m = c.args.machine.now in
    let new = c.line_output.new.self in
    obey_as c.args.order.now (live.Play c.in-Play.order) m new (g.S.Store.files m.chain.store) (g.S.Store.files new.chain.store) (g.S.Store.faults m.chain.store) (g.S.Store.faults new.chain.store) c.line_output.result items c.in-Play.is
    (play_gives c.in-Play.order m new (g.S.Store.files m.chain.store) (g.S.Store.files new.chain.store) (g.S.Store.faults m.chain.store) (g.S.Store.faults new.chain.store)
    (g.S.Store.taken m.chain.store) (g.S.Store.taken new.chain.store) c.line_output.result items c.line_output.ensures)

pub returns-in-Body : goal.returns-in-Body
returns-in-Body g c =
    let m = c.args.machine.now in
    obey_as c.args.order.now (live.Body c.in-Body.patch) m m (g.S.Store.files m.chain.store) (g.S.Store.files m.chain.store) (g.S.Store.faults m.chain.store) (g.S.Store.faults m.chain.store) c.give_body.result items c.in-Body.is
    (body_gives g.S.Store.files g.S.Store.faults m c.give_body.result items c.in-Body.patch c.give_body.ensures)

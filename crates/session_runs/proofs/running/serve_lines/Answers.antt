use Rattle.std.proofs.Common.{◌≡◌, Result, Ok, OnOk, subst}
use Rattle.grid_vertex.specs.declared.memory.NoMemory.{NoMemory}
use Rattle.script_model.specs.declared.orders.Order.{Order}
use Rattle.shared_sessions.specs.SessionLines.{ServesLine, sets_out, one_line_more}
use Rattle.session_runs.specs.SetupWorlds.{setup_world}
use Rattle.session_runs.proofs.running.serve_lines.Goals as goal

pub loop-line-init : goal.loop-line-init
loop-line-init g c =
    sets_out c.args.table.now (setup_world g.N.Naming.setup c.args.mesh.now.lists) c.args.number c.args.lines.now
    c.args.seat c.args.out.now.items c.requires.lines c.requires.idle c.requires.begins

pub loop-line-preserved : goal.loop-line-preserved
loop-line-preserved g c =
    let table = c.args.table.now in
    let w = setup_world g.N.Naming.setup c.args.mesh.now.lists in
    let at = c.loop-line in
    let line = c.line-item.result in
    let served = c.serve_order-left.result in
    let after = c.serve_order-left.new.out.items in
    let Serves : Order → Type 0 = λ order.
    ServesLine table w c.args.number order at.seat served.seat at.session served.session at.out.items after in
    let serves : Serves c.order_of-order.result.now =
    on_ok_here c.in_default.field-0 served.end c.in_default.is c.serve_order-left.ensures.ok in
    one_line_more table w c.args.number c.args.lines.now at.line-index line c.args.seat at.seat at.session
    c.args.out.now.items at.out.items c.loop-line-test.true c.line-item.is at.invariant served.seat served.session after
    c.order_of-order.ensures.small
    (subst Serves
    c.order_of-order.ensures.order serves)
    c.serve_order-left.ensures.number
    (on_ok_here c.in_default.field-0 served.end c.in_default.is c.serve_order-left.ensures.ended)
  where
    on_ok_here : {P : Type 0} (x : Unit {0}) (end : Result (Unit {0}) NoMemory) → end ≡ Ok x → OnOk end P → P
    on_ok_here {P} x end is holds = subst (λ (r : Result (Unit {0}) NoMemory). OnOk r P) is holds

use Rattle.std.proofs.Common.{Some, None, subst}
use Rattle.script_model.specs.declared.orders.Order.{Order}
use Rattle.shared_sessions.specs.OwnOrders.{own_open}
use Rattle.shared_sessions.specs.SessionLines.{ServesLine}
use Rattle.session_runs.proofs.serving.serve_closed.Goals as goal

pub returns-in-Ok-clause-ok : goal.returns-in-Ok-clause-ok
returns-in-Ok-clause-ok c = λ table w over idle many.
    subst (λ (order : Order). ServesLine table w c.args.number order c.args.seat c.args.seat None (Some c.in-Ok.session)
    c.args.out.now.items c.open_session.new.out.items)
    (own_open c.args.number c.in-Open.field-0 c.args.order.now c.requires c.in-Open.is)
    (c.in-Ok.ensures.ok table w c.args.seat over idle many)

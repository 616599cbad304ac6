use Rattle.std.proofs.Common.{ℕ, None, refl, ap, ◌∙◌}
use Rattle.script_model.specs.declared.modes.Mode.TheVariants as modes
use Rattle.script_model.specs.declared.orders.Order.TheVariants as orders
use Rattle.script_model.specs.OrderFaults.{order_fault}
use Rattle.live_model.specs.declared.orders.LiveOrder.TheVariants as live
use Rattle.live_machine.specs.Judging.{fault_at}
use Rattle.view_script.specs.Stages.{history_of}
use Rattle.live_machine.proofs.judging.fault_of.Goals as goal

pub returns-in-Play : goal.returns-in-Play
returns-in-Play g c =
    fault_at c.args.machine.now c.args.sessions.now c.requires c.args.order.now (live.Play c.in-Play.order) c.fault.result c.in-Play.is
    (c.fault.ensures.value ∙ ap (λ (n : ℕ). order_fault modes.Play n (history_of c.args.sessions.now) 0 c.in-Play.order) c.tier_count.ensures)

pub returns-in-Show : goal.returns-in-Show
returns-in-Show g c =
    fault_at c.args.machine.now c.args.sessions.now c.requires c.args.order.now (live.Show c.in-Show.session) c.fault-in-Show.result c.in-Show.is
    (c.fault-in-Show.ensures.value ∙ ap (λ (n : ℕ). order_fault modes.Play n (history_of c.args.sessions.now) 0 (orders.Frame c.in-Show.session)) c.tier_count-in-Show.ensures)

pub returns-in-Turns : goal.returns-in-Turns
returns-in-Turns g c = fault_at c.args.machine.now c.args.sessions.now c.requires c.args.order.now (live.Turns c.in-Turns.field-0) None c.in-Turns.is refl

-- The first order that may come opens the session.
use Rattle.std.proofs.Common.{◌≡◌, ℕ, sym, ap, subst, ◌∙◌}
use Rattle.script_model.specs.declared.orders.Order.{Order}
use Rattle.script_model.specs.declared.orders.Order.TheVariants as orders
use Rattle.script_model.specs.declared.stages.SessionStage.TheVariants.{Closed}
use Rattle.shared_sessions.specs.Stages.{MayServe}

pub own_open : (i j : ℕ) (order : Order) → MayServe i Closed order → order ≡ orders.Open j → orders.Open i ≡ order
own_open i j order may is = ap orders.Open (sym (subst (MayServe i Closed) is may)) ∙ sym is

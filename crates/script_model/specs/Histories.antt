-- What the lines of a script did so far: how far each session has come.
use Rattle.std.specs.Prelude.{ℕ, ◌==◌, Bool, true, false, if◌then◌else◌}
use Rattle.script_model.specs.declared.stages.SessionStage.{SessionStage}
use Rattle.script_model.specs.declared.stages.SessionStage.TheVariants.{Closed, Opened, Viewed}
use Rattle.script_model.specs.declared.orders.Order.{Order}
use Rattle.script_model.specs.declared.orders.Order.TheVariants as orders

-- how far each session has come, by its number
abbrev pub History : Type 0
History = ℕ → SessionStage

-- no session is open
abbrev pub no_sessions : History
no_sessions session = Closed

-- the session is open
abbrev pub is_open : SessionStage → Bool
is_open Closed = false
is_open Opened = true
is_open Viewed = true

-- the session has had a view since it was opened
abbrev pub is_viewed : SessionStage → Bool
is_viewed Closed = false
is_viewed Opened = false
is_viewed Viewed = true

-- the history where this session has come so far
abbrev pub with_stage : ℕ → SessionStage → History → History
with_stage session stage history other = if other == session then stage else history other

-- the history after an order
unfoldable pub history_after : History → Order → History
history_after history (orders.Open session) = with_stage session Opened history
history_after history (orders.View session view) = with_stage session Viewed history
history_after history (orders.Close session) = with_stage session Closed history
history_after history order = history

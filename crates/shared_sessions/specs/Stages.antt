-- How far a session has come, and which of its orders may come then.
use Rattle.std.specs.Prelude.{◌≡◌, ℕ, ◌<◌, List, [], ◌∷◌}
use Rattle.std.specs.List.{filter}
use Rattle.script_model.specs.declared.modes.Mode.TheVariants.{Serve}
use Rattle.script_model.specs.declared.orders.Line.{Line}
use Rattle.script_model.specs.declared.orders.Order.{Order}
use Rattle.script_model.specs.declared.orders.Order.TheVariants as orders
use Rattle.script_model.specs.declared.stages.SessionStage.{SessionStage}
use Rattle.script_model.specs.declared.stages.SessionStage.TheVariants.{Closed, Opened, Viewed}
use Rattle.script_model.specs.Orders.{is_of_session}
use Rattle.script_model.specs.Scripts.{AreLines}

-- the lines are those of session i in a script that is served
pub record AreOwnLines (i : ℕ) (lines : List Line) : Type 0 where
  pub tiers : ℕ
  pub script : List Line
  pub are : AreLines Serve tiers script
  pub own : lines ≡ filter (is_of_session i) script

-- an order of session i may come where the session has come so far
abbrev pub MayServe : ℕ → SessionStage → Order → Type 0
MayServe i Closed (orders.Open j) = j ≡ i
MayServe i Opened (orders.View j view) = j ≡ i
MayServe i Opened (orders.Free j) = j ≡ i
MayServe i Opened (orders.Close j) = j ≡ i
MayServe i Viewed (orders.View j view) = j ≡ i
MayServe i Viewed (orders.Frame j) = j ≡ i
MayServe i Viewed (orders.Free j) = j ≡ i
MayServe i Viewed (orders.Close j) = j ≡ i
MayServe i stage order = ⊥

-- how far the session has come behind an order
abbrev pub stage_behind : SessionStage → Order → SessionStage
stage_behind stage (orders.Open j) = Opened
stage_behind stage (orders.View j view) = Viewed
stage_behind stage (orders.Close j) = Closed
stage_behind stage order = stage

-- the lines' numbers ascend from above this one, and the order of each may come where those before it have led
abbrev pub MayServeAll : ℕ → SessionStage → ℕ → List Line → Type 0
MayServeAll i stage above [] = Unit {0}
MayServeAll i stage above (line ∷ lines) =
    (above < line.number) × MayServe i stage line.order × MayServeAll i
    (stage_behind stage line.order) line.number lines

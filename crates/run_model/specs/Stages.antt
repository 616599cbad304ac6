-- How far the session at a seat has come, and what it has locked.
use Rattle.std.specs.Prelude.{ℕ, Bool, false, Option, Some, None}
use Rattle.round_model.specs.Views.{ViewSeen}
use Rattle.script_model.specs.declared.stages.SessionStage.{SessionStage}
use Rattle.script_model.specs.declared.stages.SessionStage.TheVariants.{Closed, Opened, Viewed}
use Rattle.session_model.specs.Sessions.{SessionState, locks}

-- how far an open session has come that sees this
abbrev pub viewed_stage : Option ViewSeen → SessionStage
viewed_stage None = Opened
viewed_stage (Some view) = Viewed

-- how far the session at a seat has come
abbrev pub stage_of : Option SessionState → SessionStage
stage_of None = Closed
stage_of (Some s) = viewed_stage s.view

-- the patches that a session has locked; where none is open, none
abbrev pub seat_locks : Option SessionState → ℕ → Bool
seat_locks None p = false
seat_locks (Some s) p = locks s p

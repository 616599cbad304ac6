-- The history that a list of stages tells.
use Rattle.std.specs.Prelude.{slice_index_or}
use Rattle.script_model.specs.declared.stages.SessionStage.TheVariants.{Closed}
use Rattle.script_model.specs.Histories.{History}
use Rattle.view_script.specs.declared.sessions.Sessions.{Sessions}

-- each session's stage stands at its number; past the end none is open
abbrev pub history_of : Sessions → History
history_of sessions session = slice_index_or sessions.stages session Closed

-- A reader of lines, and what a line adds to it.
use Rattle.std.specs.Prelude.{◌≡◌, ℕ, false, List, [], ◌++◌, Option, Some, None, Ok, ⊤}
use Rattle.std.specs.Option.{option_to_list}
use Rattle.script_model.specs.declared.modes.Mode.{Mode}
use Rattle.script_model.specs.declared.orders.Line.{Line}
use Rattle.script_model.specs.Histories.{no_sessions}
use Rattle.script_model.specs.OrderFaults.{names_no_session}
use Rattle.script_model.specs.Scripts.{line_in, history_behind}
use Rattle.view_script.specs.declared.reading.LineReader.{LineReader}
use Rattle.view_script.specs.Stages.{history_of}

-- has no lines yet, and no session is open
pub record IsNew (mode : Mode) (tiers : ℕ) (reader : LineReader) : Type 0 where
  pub for_mode : reader.mode ≡ mode
  pub for_tiers : reader.tiers ≡ tiers
  pub history : history_of reader.sessions ≡ no_sessions
  pub empty : reader.lines.items ≡ []

-- the line, if there is one, names a session that may be, or none
abbrev pub NamesSession : Option Line → Type 0
NamesSession None = ⊤
NamesSession (Some line) = names_no_session line.order ≡ false

-- the line of this number was read and added
pub record AddsLine (number : ℕ) (bytes : List ℕ) (old new : LineReader) : Type 0 where
  pub read : Option Line
  pub is : line_in old.mode old.tiers (history_of old.sessions) number bytes ≡ Ok read
  pub for_mode : new.mode ≡ old.mode
  pub for_tiers : new.tiers ≡ old.tiers
  pub history : history_of new.sessions ≡ history_behind (history_of old.sessions) read
  pub lines : new.lines.items ≡ old.lines.items ++ option_to_list read

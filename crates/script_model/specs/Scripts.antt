-- A script: its lines, or its first fault.
use Rattle.std.specs.Prelude.{ℕ, ◌+◌, ◌==◌, Bool, true, not, ◌&&◌, nat_lt, List, [], ◌∷◌, ◌++◌, length, Option, Some, None, Result, Ok, Err, IsTrue, if◌then◌else◌}
use Rattle.std.specs.List.{list_all}
use Rattle.std.specs.Option.{option_to_list}
use Rattle.text_model.specs.declared.faults.ScriptFault.{ScriptFault}
use Rattle.text_model.specs.declared.faults.ScriptFault.TheVariants.{TooLong, NotText, UnknownWord, WrongCount, Number}
use Rattle.script_model.specs.declared.limits.TheConstants.{MOST_SCRIPT}
use Rattle.script_model.specs.declared.commands.Command.{Command}
use Rattle.script_model.specs.declared.modes.Mode.{Mode}
use Rattle.script_model.specs.declared.orders.Line.{Line}
use Rattle.script_model.specs.declared.orders.Order.{Order}
use Rattle.script_model.specs.ScriptLines.{lines_of, words_of, is_text_byte}
use Rattle.script_model.specs.Orders.{◌>>=◌, command_in, word_count, word_at, order_in}
use Rattle.script_model.specs.Histories.{History, no_sessions, history_after}
use Rattle.script_model.specs.OrderFaults.{order_fault, allows, is_left_out}

-- the command, where the line has as many words as the command asks for
abbrev pub with_count : ℕ → List (List ℕ) → Option Command → Result Command ScriptFault
with_count number words None = Err (UnknownWord number)
with_count number words (Some command) = if length words == word_count command then Ok command else Err (WrongCount number)

-- the order, or the fault of the word of the line
abbrev pub with_number : ℕ → Result Order ℕ → Result Order ScriptFault
with_number number (Ok order) = Ok order
with_number number (Err word) = Err (Number number word)

-- the order that the words of a line spell, or their first fault
unfoldable pub spelt_in : ℕ → List (List ℕ) → Result Order ScriptFault
spelt_in number words = with_count number words (command_in (word_at 1 words)) >>= λ command. with_number number (order_in command words)

-- the line of an order without a fault
abbrev pub line_unless : ℕ → Order → Option ScriptFault → Result (Option Line) ScriptFault
line_unless number order None = Ok (Some (record { number = number; order = order }))
line_unless number order (Some fault) = Err fault

-- what the words of a line order behind this history, or their first fault; no words order nothing
unfoldable pub words_in : Mode → ℕ → History → ℕ → List (List ℕ) → Result (Option Line) ScriptFault
words_in mode tiers history number [] = Ok None
words_in mode tiers history number (word ∷ words) =
    spelt_in number (word ∷ words) >>= λ order. line_unless number order (order_fault mode tiers history number order)

-- what a line orders behind this history, or its fault of the least number
unfoldable pub line_in : Mode → ℕ → History → ℕ → List ℕ → Result (Option Line) ScriptFault
line_in mode tiers history number bytes =
    if list_all is_text_byte bytes then words_in mode tiers history number (words_of bytes) else Err (NotText number)

-- the history after a line
abbrev pub history_behind : History → Option Line → History
history_behind history None = history
history_behind history (Some line) = history_after history line.order

-- the lines with words, of which the first has this number and stands behind this history; the first faulty line
-- decides
unfoldable pub lines_in : Mode → ℕ → History → ℕ → List (List ℕ) → Result (List Line) ScriptFault
lines_in mode tiers history number [] = Ok []
lines_in mode tiers history number (bytes ∷ others) =
    line_in mode tiers history number bytes >>= λ line.
    lines_in mode tiers (history_behind history line) (number + 1) others >>= λ lines.
    Ok (option_to_list line ++ lines)

-- the lines with words of a script for so many tiers, or its first fault; its length is looked at before any line
unfoldable pub script_in : Mode → ℕ → List ℕ → Result (List Line) ScriptFault
script_in mode tiers bytes =
    if nat_lt MOST_SCRIPT (length bytes) then Err TooLong else lines_in mode tiers no_sessions 1 (lines_of bytes)

-- the numbers ascend from above this one, and each order may stand behind those before it
unfoldable pub are_lines_from : Mode → ℕ → History → ℕ → List Line → Bool
are_lines_from mode tiers history above [] = true
are_lines_from mode tiers history above (line ∷ lines) =
    nat_lt above line.number && allows tiers history line.order && not (is_left_out mode line.order) && are_lines_from mode tiers (history_after history line.order) line.number lines

-- may be the lines of a script
abbrev pub AreLines : Mode → ℕ → List Line → Type 0
AreLines mode tiers lines = IsTrue (are_lines_from mode tiers no_sessions 0 lines)

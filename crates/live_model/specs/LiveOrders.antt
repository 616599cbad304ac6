-- What the bytes of a driver's line order at a place, or the line's fault of the least number. A fault's first argument,
-- which is the line's number in a script, is 0.
use Rattle.std.specs.Prelude.{ℕ, ◌==◌, List, [], ◌∷◌, length, Option, Some, None, Result, Ok, Err, codes, bytes_eq, nat_lt, if◌then◌else◌}
use Rattle.std.specs.List.{list_all}
use Rattle.text_model.specs.declared.faults.ScriptFault.{ScriptFault}
use Rattle.text_model.specs.declared.faults.ScriptFault.TheVariants.{TooLong, NotText, WrongCount, Number, NotThere}
use Rattle.script_model.specs.declared.modes.Mode.TheVariants as modes
use Rattle.script_model.specs.declared.orders.Order.TheVariants as orders
use Rattle.script_model.specs.ScriptLines.{is_text_byte, words_of}
use Rattle.script_model.specs.Orders.{◌>>=◌, word_at, count_at}
use Rattle.script_model.specs.Histories.{History, history_after}
use Rattle.script_model.specs.OrderFaults.{order_fault}
use Rattle.script_model.specs.Scripts.{spelt_in}
use Rattle.live_model.specs.declared.commands.LiveCommand.{LiveCommand}
use Rattle.live_model.specs.declared.commands.LiveCommand.TheVariants as commands
use Rattle.live_model.specs.declared.limits.TheConstants.{MOST_LINE}
use Rattle.live_model.specs.declared.orders.LiveOrder.{LiveOrder}
use Rattle.live_model.specs.declared.orders.LiveOrder.TheVariants as live
use Rattle.live_model.specs.Places.{Place}

-- the command that a word names, where it is none of a script
unfoldable pub live_command_in : List ℕ → Option LiveCommand
live_command_in word =
    if bytes_eq word (codes "show") then Some commands.Show else
    if bytes_eq word (codes "body") then Some commands.Body else
    if bytes_eq word (codes "turns") then Some commands.Turns else
    None

-- the order of a command and its number
abbrev pub numbered : LiveCommand → ℕ → LiveOrder
numbered commands.Show i = live.Show i
numbered commands.Body p = live.Body p
numbered commands.Turns n = live.Turns n

-- the order of a command, or the fault of its second word
abbrev pub with_count_of : LiveCommand → Result ℕ ℕ → Result LiveOrder ScriptFault
with_count_of command (Ok n) = Ok (numbered command n)
with_count_of command (Err word) = Err (Number 0 word)

-- what words spell whose first one names this command; the other lines are a script's
unfoldable pub spelt_by : List (List ℕ) → Option LiveCommand → Result LiveOrder ScriptFault
spelt_by words None = spelt_in 0 words >>= λ order. Ok (live.Play order)
spelt_by words (Some command) = if length words == 2 then with_count_of command (count_at 2 words) else Err
    (WrongCount 0)

-- the order that words spell, or their first fault
abbrev pub live_spelt_in : List (List ℕ) → Result LiveOrder ScriptFault
live_spelt_in words = spelt_by words (live_command_in (word_at 1 words))

-- the least fault of an order at this place: an order of a script has a script's, `show` those of a frame, and a body is
-- there where it may be had at once
abbrev pub live_fault : Place → LiveOrder → Option ScriptFault
live_fault place (live.Play order) = order_fault modes.Play place.tiers place.history 0 order
live_fault place (live.Show i) = order_fault modes.Play place.tiers place.history 0 (orders.Frame i)
live_fault place (live.Body p) = if place.fast p then None else Some (NotThere 0)
live_fault place (live.Turns n) = None

-- the order, where it has no fault
abbrev pub live_unless : LiveOrder → Option ScriptFault → Result (Option LiveOrder) ScriptFault
live_unless order None = Ok (Some order)
live_unless order (Some fault) = Err fault

-- what words order at this place, or their first fault; no words order nothing
unfoldable pub live_words_in : Place → List (List ℕ) → Result (Option LiveOrder) ScriptFault
live_words_in place [] = Ok None
live_words_in place (word ∷ words) = live_spelt_in (word ∷ words) >>= λ order. live_unless order
    (live_fault place order)

-- what a line orders at this place, or its fault of the least number
unfoldable pub live_in : Place → List ℕ → Result (Option LiveOrder) ScriptFault
live_in place bytes =
    if nat_lt MOST_LINE (length bytes) then Err TooLong else
    if list_all is_text_byte bytes then live_words_in place (words_of bytes) else Err (NotText 0)

-- how far the sessions have come behind an order
abbrev pub live_history_after : History → LiveOrder → History
live_history_after history (live.Play order) = history_after history order
live_history_after history (live.Show i) = history
live_history_after history (live.Body p) = history
live_history_after history (live.Turns n) = history

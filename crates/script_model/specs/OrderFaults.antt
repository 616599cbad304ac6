-- Where an order can't stand in a script.
use Rattle.std.specs.Prelude.{ℕ, Bool, true, false, not, ◌&&◌, nat_le, Option, Some, None, if◌then◌else◌}
use Rattle.file_model.specs.Rules.{is_between}
use Rattle.text_model.specs.declared.faults.ScriptFault.{ScriptFault}
use Rattle.text_model.specs.declared.faults.ScriptFault.TheVariants.{SessionOut, AlreadyThere, NotThere, NoView, NoTier, PlayOnly}
use Rattle.token_words.specs.declared.session_sets.TheConstants.{SESSIONS}
use Rattle.script_model.specs.declared.modes.Mode.{Mode}
use Rattle.script_model.specs.declared.modes.Mode.TheVariants as modes
use Rattle.script_model.specs.declared.orders.Order.{Order}
use Rattle.script_model.specs.declared.orders.Order.TheVariants as orders
use Rattle.script_model.specs.Orders.{session_of}
use Rattle.script_model.specs.Histories.{History, is_open, is_viewed}

-- the test holds for the number that is there
abbrev pub is_there_with : (ℕ → Bool) → Option ℕ → Bool
is_there_with test None = false
is_there_with test (Some n) = test n

-- names a session whose number isn't 1 to the greatest
abbrev pub names_no_session : Order → Bool
names_no_session order = is_there_with (λ session. not (is_between 1 SESSIONS session)) (session_of order)

-- opens a session
abbrev pub is_opening : Order → Bool
is_opening (orders.Open session) = true
is_opening order = false

-- opens a session that is open
abbrev pub opens_again : History → Order → Bool
opens_again history order = is_opening order && is_there_with (λ session. is_open (history session)) (session_of order)

-- orders something else of a session that isn't open
abbrev pub names_closed : History → Order → Bool
names_closed history order = not (is_opening order) && is_there_with (λ session. not (is_open (history session))) (session_of order)

-- makes a step or a frame
abbrev pub needs_view : Order → Bool
needs_view (orders.Step session) = true
needs_view (orders.Frame session) = true
needs_view order = false

-- makes a step or a frame of a session that has had no view since it was opened
abbrev pub lacks_view : History → Order → Bool
lacks_view history order = needs_view order && is_there_with (λ session. not (is_viewed (history session))) (session_of order)

-- turns a tier whose number isn't below the number of tiers
abbrev pub names_no_tier : ℕ → Order → Bool
names_no_tier tiers (orders.Turn tier) = nat_le tiers tier
names_no_tier tiers order = false

-- is for one thread alone
abbrev pub is_play_only : Order → Bool
is_play_only (orders.Step session) = true
is_play_only (orders.Turn tier) = true
is_play_only orders.Settle = true
is_play_only orders.Status = true
is_play_only order = false

abbrev pub is_serve : Mode → Bool
is_serve modes.Play = false
is_serve modes.Serve = true

-- a script for several threads can't have the order
abbrev pub is_left_out : Mode → Order → Bool
is_left_out mode order = is_serve mode && is_play_only order

-- the least fault of an order behind this history, in the line of this number
unfoldable pub order_fault : Mode → ℕ → History → ℕ → Order → Option ScriptFault
order_fault mode tiers history number order =
    if names_no_session order then Some (SessionOut number) else
    if opens_again history order then Some (AlreadyThere number) else
    if names_closed history order then Some (NotThere number) else
    if lacks_view history order then Some (NoView number) else
    if names_no_tier tiers order then Some (NoTier number) else
    if is_left_out mode order then Some (PlayOnly number) else
    None

-- a script that is played may have the order behind this history
unfoldable pub allows : ℕ → History → Order → Bool
allows tiers history order =
    not (names_no_session order) && not (opens_again history order) && not (names_closed history order) && not (lacks_view history order) && not (names_no_tier tiers order)

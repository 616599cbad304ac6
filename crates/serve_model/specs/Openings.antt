-- The sessions that a script opens.
use Rattle.std.specs.Prelude.{ℕ, Bool, ◌&&◌, List}
use Rattle.std.specs.List.{filter, list_any, range_with_len}
use Rattle.script_model.specs.declared.orders.Line.{Line}
use Rattle.script_model.specs.declared.orders.Order.{Order}
use Rattle.script_model.specs.OrderFaults.{is_opening}
use Rattle.script_model.specs.Orders.{is_of_session}
use Rattle.token_words.specs.declared.session_sets.TheConstants.{SESSIONS}
use Rattle.run_model.specs.RunTexts.{orders_of}

-- the line opens the session
abbrev pub opens : ℕ → Line → Bool
opens i line = is_opening line.order && is_of_session i line

-- the numbers of the sessions that lines open, ascending
unfoldable pub opened_numbers : List Line → List ℕ
opened_numbers lines = filter (λ i. list_any (opens i) lines) (range_with_len 1 SESSIONS)

-- the orders of one session among those of a script
abbrev pub own_orders : ℕ → List Line → List Order
own_orders i lines = orders_of (filter (is_of_session i) lines)

-- Texts of turns and of tiers: how they grow by a line, and what a settling's text says.
use Rattle.std.proofs.Common.{◌≡◌, ℕ, ◌+◌, ◌<◌, ◌≤◌, List, [], ◌∷◌, ◌++◌, length, map, take, get_or, Some, sym, ap, ◌∙◌, arith}
use Rattle.std.specs.Prelude.{slice_get}
use Rattle.std.proofs.lemmas.List.{take_more, take_all, map-append, length-map, length-take-le}
use Rattle.std.proofs.lemmas.Option.{slice_get_within, get_or_from_slice_get}
use Rattle.script_model.specs.declared.orders.Order.TheVariants as orders
use Rattle.text_model.specs.Lines.{Adds}
use Rattle.token_words.specs.declared.entries.Entry.{Entry}
use Rattle.tier_model.specs.Tiers.{TierState}
use Rattle.wish_board.specs.Boards.{BoardSeen}
use Rattle.cache_chain.specs.declared.parts.TurnLine.{TurnLine}
use Rattle.cache_chain.specs.SettleRuns.{lines_of}
use Rattle.run_model.specs.Worlds.{World}
use Rattle.run_model.specs.States.{State}
use Rattle.run_model.specs.Lines.{DidTurns, DidTell, DoesSettle, DoesStatus, tier_status}
use Rattle.run_model.specs.LineTexts.{turn_line, turn_lines, tier_line, tier_lines}
use Rattle.session_seats.specs.Seats.{SeatsSeen, state_of}
use Rattle.view_machine.specs.LineTells.{DoesLine, turn_more, tier_more}
use Rattle.view_machine.specs.LineCounts.{DoesCounted}
use Rattle.view_machine.specs.Machines.{state_in}
use Rattle.view_machine.specs.TurnClauses.{turn_in, logged_turns, LogsLine}

-- what is made of the first items, and of one more
one_more : {X Y : Type 0} (f : X → Y) (xs : List X) (i : ℕ) (d : X) → i < length xs → map f (take (i + 1) xs) ≡ map f (take i xs) ++ f (get_or xs i d) ∷ []
one_more f xs i d within = ap (map f) (take_more xs i d within) ∙ map-append f (take i xs) (get_or xs i d ∷ [])

pub turn_text_more : (log : List TurnLine) (i : ℕ) (d : TurnLine) (before after : List ℕ) → i < length log → before ≡ turn_lines (map turn_in (take i log)) → Adds before after (turn_line (get_or log i d).tier (get_or log i d).turn) → after ≡ turn_lines (map turn_in (take (i + 1) log))
turn_text_more log i d before after within so_far adds =
    let line = get_or log i d in
    adds.is
    ∙ ap (λ (text : List ℕ). text ++ turn_line line.tier line.turn) so_far
    ∙ sym (turn_more (map turn_in (take i log)) (turn_in line))
    ∙ ap turn_lines (sym (one_more turn_in log i d within))

-- the text of a whole log is that of the settling
pub settles_text : (w : World) (a : State) (old new : List TurnLine) (b : State) (f g t u : ℕ) (text : List ℕ) → old ≡ [] → LogsLine w a old new b f g t u → text ≡ turn_lines (map turn_in new) → DoesCounted w orders.Settle a b text f g t u
settles_text w a old new b f g t u text empty logs is = record {
  did = DidTurns logs.turns;
  does = DoesSettle logs.settles;
  is =
      is ∙ ap (λ (log : List TurnLine). turn_lines (map turn_in log)) (logs.log ∙ ap (λ (log : List TurnLine). log ++ lines_of logs.turns) empty)
      ∙ ap turn_lines (logged_turns logs.turns);
  counts = logs.counts;
}

taken_count : (tiers : List TierState) (i : ℕ) → i < length tiers → 0 + length (map tier_status (take i tiers)) ≡ i
taken_count tiers i within =
    let many = length-map (take i tiers) tier_status ∙ length-take-le i tiers (omega arith) in
    omega arith

pub tier_text_more : (tiers : List TierState) (i : ℕ) (t : TierState) (before after : List ℕ) → slice_get tiers i ≡ Some t → before ≡ tier_lines 0 (map tier_status (take i tiers)) → Adds before after (tier_line i (tier_status t)) → after ≡ tier_lines 0 (map tier_status (take (i + 1) tiers))
tier_text_more tiers i t before after at so_far adds =
    let within = slice_get_within tiers i t at in
    let here : get_or tiers i t ≡ t = get_or_from_slice_get tiers i t t at in
    adds.is
    ∙ ap (λ (text : List ℕ). text ++ tier_line i (tier_status t)) so_far
    ∙ sym (tier_more 0 i (map tier_status (take i tiers)) (tier_status t) (taken_count tiers i within))
    ∙ ap (tier_lines 0) (sym (one_more tier_status tiers i t within ∙ ap (λ (s : TierState). map tier_status (take i tiers) ++ tier_status s ∷ []) here))

-- the text of all tiers is that of the status
pub status_text : (w : World) (tiers : List TierState) (words : List Entry) (seats : SeatsSeen) (board : BoardSeen) (i : ℕ) (text : List ℕ) → length tiers ≤ i → text ≡ tier_lines 0 (map tier_status (take i tiers)) → DoesLine w orders.Status (state_in tiers words seats board) (state_in tiers words seats board) text
unfolding state_of
status_text w tiers words seats board i text all is = record {
  did = DidTell (map tier_status tiers);
  does = DoesStatus;
  is = is ∙ ap (λ (ts : List TierState). tier_lines 0 (map tier_status ts)) (take_all i tiers all);
}

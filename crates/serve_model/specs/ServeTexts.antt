-- The text of a served run.
use Rattle.std.specs.Prelude.{◌≡◌, ℕ, ◌≤◌, false, Bool, List, [], ◌∷◌, ◌++◌, length, map, Some, None, is_some, slice_get, All, codes}
use Rattle.std.specs.Fmt.{decimal}
use Rattle.std.specs.List.{AllByRecursion, filter, flat_map}
use Rattle.script_model.specs.declared.orders.Line.{Line}
use Rattle.script_model.specs.declared.orders.Order.{Order}
use Rattle.script_model.specs.declared.orders.Order.TheVariants as orders
use Rattle.text_model.specs.Lines.{line_of}
use Rattle.tier_model.specs.declared.turns.Turn.{Turn}
use Rattle.tier_model.specs.Counts.{commits_and_evicts}
use Rattle.token_words.specs.Tries.{Rise}
use Rattle.run_model.specs.Kept.{seat_view}
use Rattle.run_model.specs.Worlds.{World, is_base}
use Rattle.run_model.specs.States.{State}
use Rattle.run_model.specs.Lines.{Did, Runs}
use Rattle.run_model.specs.LineTexts.{AreTextsOf}
use Rattle.run_model.specs.RunTexts.{turns_in}
use Rattle.serve_model.specs.ServedLines.{IsServedText}
use Rattle.serve_model.specs.FittingFaults.{IsFitting}
use Rattle.serve_model.specs.Journals.{journal_texts, ReplaysAt, top_journal}
use Rattle.serve_model.specs.Openings.{opened_numbers, own_orders}
use Rattle.serve_model.specs.Lefts.{ServedSession, IsLeft}

-- ---- lines

-- how many sessions the script opens, and how many tiers there are
unfoldable pub serve_head : World → List Line → List ℕ
serve_head w lines = line_of (codes "serve")
    (codes "sessions" ∷ decimal (length (opened_numbers lines)) ∷ codes "tiers" ∷ decimal (length w.budgets) ∷ [])

-- the line before a session's text
unfoldable pub session_head : ℕ → List ℕ
session_head i = line_of (codes "session") (decimal i ∷ [])

abbrev pub session_text : ServedSession → List ℕ
session_text s = session_head s.number ++ s.text

-- the line before the settling
unfoldable pub settled_head : List ℕ
settled_head = line_of (codes "settled") []

-- ---- sessions

-- tries that can have been answered while the top tier came by this journal: each has at most the epoch that its patch
-- has
-- in the end, along them the epochs of one patch don't fall, and none is of a base patch
pub record AreFound (w : World) (journal : List Turn) (tries : List (ℕ × ℕ)) : Type 0 where
  pub counted : All (λ (try : ℕ × ℕ). try.1 ≤ commits_and_evicts journal try.0) tries
  pub rise : Rise tries
  pub no_base : All (λ (try : ℕ × ℕ). is_base w try.0 ≡ false) tries

-- the session was served by its own lines, beside a top tier that came by its journal
pub record IsServed (w : World) (lines : List Line) (journals : List (List Turn)) (s : ServedSession) : Type 0 where
  pub served : IsServedText w None (own_orders s.number lines) s.tries s.text s.left
  pub found : AreFound w (top_journal journals) s.tries

-- the session was left open, with a view
abbrev pub has_view : ServedSession → Bool
has_view s = is_some (seat_view s.left)

-- all tiers settle, and each session that was left open with a view prints a frame
abbrev pub last_orders : List ServedSession → List Order
last_orders sessions = orders.Settle ∷ map (λ (s : ServedSession). orders.Frame s.number) (filter has_view sessions)

-- ---- the text

-- the text is that of a run in which sessions were served by these lines. The sessions that the script opens stand in
-- ascending order; each tier's journal can be replayed; and from the state that they leave all tiers settle, and frames
-- are
-- printed
pub record IsServeText (w : World) (lines : List Line) (text : List ℕ) : Type 0 where
  pub sessions : List ServedSession
  pub numbers : map (λ (s : ServedSession). s.number) sessions ≡ opened_numbers lines
  pub journals : List (List Turn)
  pub served : All (IsServed w lines journals) sessions
  pub replay : (k : ℕ) (journal : List Turn) → slice_get journals k ≡ Some journal → ReplaysAt w k journal
  pub left : State
  pub is_left : IsLeft w sessions journals left
  pub dids : List Did
  pub last : State
  pub runs : Runs w left (last_orders sessions) dids last
  pub fits : AllByRecursion (λ (did : Did). AllByRecursion (λ (turn : ℕ × Turn). IsFitting turn.1) (turns_in did)) dids
  pub settled_text : List ℕ
  pub settled_texts : AreTextsOf dids settled_text
  pub is : text ≡ serve_head w lines
      ++ (flat_map session_text sessions ++ (journal_texts 0 journals ++ (settled_head ++ settled_text)))

-- Journals as text, and what makes a list of turns a tier's journal.
use Rattle.std.specs.Prelude.{◌≡◌, ℕ, zero, suc, ◌+◌, Bool, false, List, [], ◌∷◌, ◌++◌, length, replicate, Some, codes, slice_get}
use Rattle.std.specs.Fmt.{decimal}
use Rattle.std.specs.List.{AllByRecursion, flat_map}
use Rattle.text_model.specs.Lines.{line_of}
use Rattle.tier_model.specs.declared.turns.Turn.{Turn}
use Rattle.tier_model.specs.Places.{Places, Replays}
use Rattle.tier_model.specs.Tiers.{sizes_of, base_marks}
use Rattle.run_model.specs.Worlds.{World, patch_count}
use Rattle.run_model.specs.LineTexts.{turn_words}
use Rattle.serve_model.specs.FittingFaults.{IsFitting}

-- ---- text

-- a line of words, of which there is one
abbrev pub words_line : List (List ℕ) → List ℕ
words_line [] = line_of [] []
words_line (first ∷ words) = line_of first words

-- an entry's line
unfoldable pub entry_line : Turn → List ℕ
entry_line entry = words_line (turn_words entry)

-- the line before the entries of tier k's journal: the tier's number, and how many entries there are
unfoldable pub journal_head : ℕ → List Turn → List ℕ
journal_head k journal = line_of (codes "journal") (decimal k ∷ decimal (length journal) ∷ [])

unfoldable pub journal_text : ℕ → List Turn → List ℕ
journal_text k journal = journal_head k journal ++ flat_map entry_line journal

-- the journals, of which the first is tier k's
unfoldable pub journal_texts : ℕ → List (List Turn) → List ℕ
journal_texts k [] = []
journal_texts k (journal ∷ journals) = journal_text k journal ++ journal_texts (k + 1) journals

-- ---- journals

-- the pinned patches of tier k: at the top those of the base, in no other tier any
abbrev pub pins_of : World → ℕ → List Bool
pins_of w zero = base_marks w.mesh.index.fields
pins_of w (suc k) = replicate (patch_count w) false

-- tier k, which began with its pinned patches, can have come by this journal, within its budget and its width
pub record ReplaysAt (w : World) (k : ℕ) (journal : List Turn) : Type 0 where
  pub budget : ℕ
  pub of_tier : slice_get w.budgets k ≡ Some budget
  pub places : Places
  pub replays : Replays budget w.width (sizes_of w.mesh.index) (pins_of w k) journal places
  pub fits : AllByRecursion IsFitting journal

-- the journal of the top tier
abbrev pub top_journal : List (List Turn) → List Turn
top_journal [] = []
top_journal (journal ∷ journals) = journal

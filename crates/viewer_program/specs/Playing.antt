-- What the words of `play`, `playw` and `live` ask for.
use Rattle.std.specs.Prelude.{◌≡◌, ℕ, ◌≤◌, ◌==◌, ◌||◌, nat_lt, List, [], ◌∷◌, length, Option, Some, None, codes, bytes_eq, if◌then◌else◌}
use Rattle.tier_model.specs.declared.turns.TheConstants.{MOST_WIDTH}
use Rattle.tier_model.specs.Tiers.{IsWidth}
use Rattle.number_words.specs.Numbers.{number_in}
use Rattle.viewer_program.specs.declared.plays.TheConstants.{GREATEST_BUDGET, MOST_TIERS}

-- how many patches come to a tier at a time, and each tier's budget
pub record PlaySeen : Type 0 where
  pub width : ℕ
  pub budgets : List ℕ

-- there may be such tiers
pub record IsPlay (play : PlaySeen) : Type 0 where
  pub wide : IsWidth play.width
  pub some_tier : 1 ≤ length play.budgets
  pub few_tiers : length play.budgets ≤ MOST_TIERS

-- the budget in front of the others, where all are there
abbrev pub with_budget : Option ℕ → Option (List ℕ) → Option (List ℕ)
with_budget (Some budget) (Some budgets) = Some (budget ∷ budgets)
with_budget budget budgets = None

-- the budgets that words spell, if each does
unfoldable pub budgets_in : List (List ℕ) → Option (List ℕ)
budgets_in [] = Some []
budgets_in (word ∷ words) = with_budget (number_in GREATEST_BUDGET word) (budgets_in words)

-- the number, if so many patches may come at a time; it is at most the most
abbrev pub width_from : Option ℕ → Option ℕ
width_from None = None
width_from (Some width) = if width == 0 then None else Some width

-- the width that a word spells
abbrev pub width_in : List ℕ → Option ℕ
width_in word = width_from (number_in MOST_WIDTH word)

abbrev pub play_from : Option ℕ → Option (List ℕ) → Option PlaySeen
play_from (Some width) (Some budgets) = Some (record { width = width; budgets = budgets })
play_from width budgets = None

-- the play of this width and the budgets that words spell, over a file whose name isn't empty
abbrev pub play_with : List ℕ → Option ℕ → List (List ℕ) → Option PlaySeen
play_with name width words =
    if length words == 0 || nat_lt MOST_TIERS (length words) || length name == 0 then None else
    play_from width (budgets_in words)

-- the first of these words spells the width
abbrev pub wide_play_with : List ℕ → List (List ℕ) → Option PlaySeen
wide_play_with name [] = None
wide_play_with name (width ∷ budgets) = play_with name (width_in width) budgets

-- the play of a word, a file's name and the words behind them
abbrev pub play_named : List ℕ → List ℕ → List (List ℕ) → Option PlaySeen
play_named first name words =
    if bytes_eq first (codes "play") then play_with name (Some 1) words else
    if bytes_eq first (codes "playw") then wide_play_with name words else
    None

abbrev pub play_in : List (List ℕ) → Option PlaySeen
play_in (first ∷ name ∷ words) = play_named first name words
play_in others = None

-- the run that a driver's words ask for: those of a play behind another first word
abbrev pub live_named : List ℕ → List ℕ → List (List ℕ) → Option PlaySeen
live_named first name words = if bytes_eq first (codes "live") then play_with name (Some 1) words else None

abbrev pub live_play_in : List (List ℕ) → Option PlaySeen
live_play_in (first ∷ name ∷ words) = live_named first name words
live_play_in others = None

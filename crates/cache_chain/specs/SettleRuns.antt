-- A settling with its log: the turns that were made, each with the number of its tier.
use Rattle.std.specs.Prelude.{◌≡◌, ℕ, ◌≤◌, List, ◌++◌, length, map}
use Rattle.tier_model.specs.declared.turns.Turn.{Turn}
use Rattle.tier_laws.specs.ChainLaws.{IsTopTied}
use Rattle.tier_model.specs.Settling.{TurnsToIdle, Settles}
use Rattle.settling_laws.specs.Midway.{IsMidway, IsHalfSettled}
use Rattle.cache_chain.specs.declared.parts.TurnLine.{TurnLine}
use Rattle.cache_chain.specs.ChainStates.{AreTiersOf}
use Rattle.cache_chain.specs.Turning.{AllKeepWishes}
use Rattle.cache_chain.specs.SettleOrder.{IdlesLast, SettleLog, ComesNext}
use Rattle.cache_chain.specs.TurnRuns.{Setting, Moment, chain_at, MakesTurns, StopsTurns}

-- a turn as a line of the log, and turns as lines
abbrev pub line_of : ℕ × Turn → TurnLine
line_of t = record { tier = t.0; turn = t.1 }

abbrev pub lines_of : List (ℕ × Turn) → List TurnLine
lines_of turns = map line_of turns

-- a chain whose tiers may turn: they are the index's with bodies of the file, where the versions agree they keep the
-- wishes, and the top is tied to the words, which are as many as the patches
pub record MayTurn (u : Setting) (m : Moment) : Type 0 where
  pub are : AreTiersOf u.index u.bytes m.tiers
  pub wishes : AllKeepWishes u.board m.tiers
  pub tied : IsTopTied (chain_at m) m.words.pinned
  pub words : length u.index.fields ≤ m.words.patches

-- the first n tiers settled, from the lowest of them to the top, and each turn was logged
pub record LogsSettling (u : Setting) (n : ℕ) (before after : Moment) (old new : List TurnLine) : Type 0 where
  pub made : List (ℕ × Turn)
  pub log : new ≡ old ++ lines_of made
  pub settles : Settles u.board n (chain_at before) made (chain_at after)
  pub turns : MakesTurns u before made after

-- the turns that were made were logged, the first of a settling of n tiers, and the next was refused memory
pub record LogsStop (u : Setting) (n : ℕ) (before after : Moment) (old new : List TurnLine) : Type 0 where
  pub made : List (ℕ × Turn)
  pub log : new ≡ old ++ lines_of made
  pub stops : StopsTurns u before made after
  pub next : ComesNext n stops.tier made

-- ---- on the way

-- tier k was turned until it was idle
pub record LogsTier (u : Setting) (k : ℕ) (before after : Moment) (old new : List TurnLine) : Type 0 where
  pub made : List (ℕ × Turn)
  pub log : new ≡ old ++ lines_of made
  pub idles : TurnsToIdle u.board k (chain_at before) made (chain_at after)
  pub turns : MakesTurns u before made after

-- tier k was turned so often, and wasn't idle yet
pub record LogsMidway (u : Setting) (k count : ℕ) (before after : Moment) (old new : List TurnLine) : Type 0 where
  pub made : List (ℕ × Turn)
  pub log : new ≡ old ++ lines_of made
  pub midway : IsMidway u.board k (length u.index.fields) (chain_at before) (chain_at after) made
  pub order : (rest : List (ℕ × Turn)) → IdlesLast k rest → IdlesLast k (made ++ rest)
  pub turns : MakesTurns u before made after
  pub many : length made ≡ count

-- of n tiers, all but the first `left` have settled
pub record LogsHalf (u : Setting) (n left : ℕ) (before after : Moment) (old new : List TurnLine) : Type 0 where
  pub made : List (ℕ × Turn)
  pub log : new ≡ old ++ lines_of made
  pub half : IsHalfSettled u.board n left (chain_at before) (chain_at after) made
  pub order : (rest : List (ℕ × Turn)) → SettleLog left rest → SettleLog n (made ++ rest)
  pub turns : MakesTurns u before made after

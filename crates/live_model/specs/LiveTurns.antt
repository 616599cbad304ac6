-- Rounds of turns.
use Rattle.std.specs.Prelude.{◌≡◌, ℕ, zero, suc, Bool, true, false, List, [], ◌∷◌, ◌++◌, length}
use Rattle.std.specs.List.{list_all}
use Rattle.tier_model.specs.declared.turns.Turn.{Turn}
use Rattle.tier_model.specs.declared.turns.Turn.TheVariants.{Reserve, Evict, Kept, Got, Lost, Fault, Changed, Commit, Idle}
use Rattle.run_model.specs.Worlds.{World}
use Rattle.run_model.specs.States.{State}
use Rattle.run_model.specs.Turning.{TurnsTo}

-- the tier found nothing to do
abbrev pub is_idle : Turn → Bool
is_idle Idle = true
is_idle (Reserve p) = false
is_idle (Evict p) = false
is_idle (Kept p uses) = false
is_idle (Got p) = false
is_idle (Lost p) = false
is_idle (Fault p) = false
is_idle (Changed p fault) = false
is_idle (Commit p) = false

-- no turn did anything
abbrev pub all_idle : List (ℕ × Turn) → Bool
all_idle log = list_all (λ (turn : ℕ × Turn). is_idle turn.1) log

-- each of the first n tiers makes one turn, from the lowest of them to the top
pub data TurnsOnce (w : World) : ℕ → State → List (ℕ × Turn) → State → Type 0 where
  NoTier : {a : State} → TurnsOnce w zero a [] a
  TierTurns : {n : ℕ} {a b c : State} {log : List (ℕ × Turn)} (answer : Turn) → TurnsTo w n a answer b
      → TurnsOnce w n b log c → TurnsOnce w (suc n) a ((n, answer) ∷ log) c

-- so many rounds of one turn a tier; a round in which all were idle is the last
pub data TurnsRounds (w : World) : ℕ → State → List (ℕ × Turn) → State → Type 0 where
  NoRound : {a : State} → TurnsRounds w zero a [] a
  LastRound : {n : ℕ} {a b : State} {log : List (ℕ × Turn)} → TurnsOnce w (length w.budgets) a log b
      → all_idle log ≡ true → TurnsRounds w (suc n) a log b
  MoreRounds : {n : ℕ} {a b c : State} {log rest : List (ℕ × Turn)} → TurnsOnce w (length w.budgets) a log b
      → all_idle log ≡ false → TurnsRounds w n b rest c → TurnsRounds w (suc n) a (log ++ rest) c

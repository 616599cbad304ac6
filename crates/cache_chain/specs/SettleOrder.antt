-- The order in which a settling turns its tiers.
use Rattle.std.proofs.Common.{◌≢◌, ℕ, zero, suc, List, [], ◌∷◌, ◌++◌}
use Rattle.tier_model.specs.declared.turns.Turn.{Turn}
use Rattle.tier_model.specs.declared.turns.Turn.TheVariants.{Idle}
use Rattle.tier_model.specs.Turns.{Board}
use Rattle.tier_model.specs.Chains.{Chain}
use Rattle.tier_model.specs.Settling.{TurnsToIdle, Last, More, Settles, Settled, Tier}

-- turns of tier k, of which the last alone is idle
pub data IdlesLast (k : ℕ) : List (ℕ × Turn) → Type 0 where
  IdleLast : IdlesLast k ((k, Idle) ∷ [])
  IdleLater : {log : List (ℕ × Turn)} (answer : Turn) → answer ≢ Idle → IdlesLast k log → IdlesLast k ((k, answer) ∷ log)

-- such turns of each of the first n tiers, from the lowest of them to the top
pub data SettleLog : ℕ → List (ℕ × Turn) → Type 0 where
  NoTier : SettleLog zero []
  OneTier : {n : ℕ} {log rest : List (ℕ × Turn)} → IdlesLast n log → SettleLog n rest → SettleLog (suc n) (log ++ rest)

-- behind these turns of the first n tiers a settling of them turns tier k: with an idle turn of it, and others, they are
-- the turns of a settling
pub record ComesNext (n k : ℕ) (made : List (ℕ × Turn)) : Type 0 where
  pub rest : List (ℕ × Turn)
  pub whole : SettleLog n (made ++ (k, Idle) ∷ rest)

pub idles_last : (board : Board) (k : ℕ) (a b : Chain) (log : List (ℕ × Turn)) → TurnsToIdle board k a log b → IdlesLast k log
idles_last board k a b _ (Last turn) = IdleLast
idles_last board k a c _ (More {b = b} {log = log} answer going turn rest) = IdleLater answer going (idles_last board k b c log rest)

pub settle_log : (board : Board) (n : ℕ) (a b : Chain) (log : List (ℕ × Turn)) → Settles board n a log b → SettleLog n log
settle_log board _ a _ _ Settled = NoTier
settle_log board _ a c _ (Tier {n = n} {b = b} {log = log} {rest = rest} turns settles) = OneTier (idles_last board n a b log turns) (settle_log board n b c rest settles)

-- each of the first n tiers may be idle at once
abbrev pub idle_log : ℕ → List (ℕ × Turn)
idle_log zero = []
idle_log (suc n) = (n, Idle) ∷ idle_log n

pub idle_settles : (n : ℕ) → SettleLog n (idle_log n)
idle_settles zero = NoTier
idle_settles (suc n) = OneTier IdleLast (idle_settles n)

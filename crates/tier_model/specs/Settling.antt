-- Turns of one tier until one is idle, and of each tier from the lowest to the top.
use Rattle.std.specs.Prelude.{◌≡◌, ◌≢◌, ℕ, zero, suc, List, [], ◌∷◌, ◌++◌, Some, slice_get, slice_set}
use Rattle.tier_model.specs.declared.turns.Turn.{Turn}
use Rattle.tier_model.specs.declared.turns.Turn.TheVariants.{Idle}
use Rattle.tier_model.specs.Tiers.{TierState}
use Rattle.tier_model.specs.Turns.{Board, IsTurn, BringsBody}
use Rattle.tier_model.specs.Chains.{Chain, told_at, epochs_then}

-- one turn of tier k
pub record TurnsAt (board : Board) (k : ℕ) (answer : Turn) (a b : Chain) : Type 0 where
  pub before : TierState
  pub after : TierState
  pub was : slice_get a.tiers k ≡ Some before
  pub is : b.tiers ≡ slice_set a.tiers k after
  pub turns : IsTurn board (told_at a k) before answer after
  pub body : BringsBody before.sizes answer after
  pub epochs : (p : ℕ) → b.epochs p ≡ epochs_then k answer a.epochs p

-- turns of tier k until one is idle, each with the tier's number
pub data TurnsToIdle (board : Board) (k : ℕ) : Chain → List (ℕ × Turn) → Chain → Type 0 where
  Last : {a b : Chain} → TurnsAt board k Idle a b → TurnsToIdle board k a ((k, Idle) ∷ []) b
  More : {a b c : Chain} {log : List (ℕ × Turn)} (answer : Turn) → answer ≢ Idle → TurnsAt board k answer a b → TurnsToIdle board k b log c → TurnsToIdle board k a ((k, answer) ∷ log) c

-- the first n tiers settle, from the lowest of them to the top
pub data Settles (board : Board) : ℕ → Chain → List (ℕ × Turn) → Chain → Type 0 where
  Settled : {a : Chain} → Settles board zero a [] a
  Tier : {n : ℕ} {a b c : Chain} {log rest : List (ℕ × Turn)} → TurnsToIdle board n a log b → Settles board n b rest c → Settles board (suc n) a (log ++ rest) c

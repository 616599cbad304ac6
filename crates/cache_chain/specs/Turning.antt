-- One turn of a tier among tiers, over a store or whatever else lies below the lowest of them.
use Rattle.std.specs.Prelude.{◌≡◌, ℕ, suc, false, List, Some, None, slice_get, slice_set, MatchOption, Result, IfOk, OnErr}
use Rattle.file_model.specs.Lists.{SeenBody}
use Rattle.tier_model.specs.declared.turns.Turn.{Turn}
use Rattle.tier_model.specs.Tiers.{TierState, body_at, IsTier}
use Rattle.tier_model.specs.Answers.{IfGot, IfLost}
use Rattle.tier_model.specs.Turns.{Board, begun, IsTurn, BringsBody}
use Rattle.tier_model.specs.Keeping.{KeepsSetup, KeepsWishes}
use Rattle.tier_model.specs.Choices.{Told}
use Rattle.tier_model.specs.Chains.{Chain}

-- the tiers, and the epochs of the top tier's patches
abbrev pub chain_of : List TierState → (ℕ → ℕ) → Chain
chain_of tiers epochs = record { tiers = tiers; epochs = epochs }

-- each tier that keeps the board's version keeps its wishes
pub record AllKeepWishes (board : Board) (tiers : List TierState) : Type 0 where
  pub each : (k : ℕ) (s : TierState) → slice_get tiers k ≡ Some s → KeepsWishes board s

-- each tier has these sizes of bodies
pub record HaveSizes (sizes : List ℕ) (tiers : List TierState) : Type 0 where
  pub each : (k : ℕ) (s : TierState) → slice_get tiers k ≡ Some s → s.sizes ≡ sizes

-- tier k is the lowest, and this holds
abbrev pub AtLowest : List TierState → ℕ → Type 0 → Type 0
AtLowest tiers k P = (slice_get tiers (suc k) ≡ None) × P

-- what the tier below tier k gives of a patch: the body that it holds; the lowest tier gets what the store gives
abbrev pub GivesBelow : (ℕ → SeenBody → Type 0) → List TierState → ℕ → ℕ → SeenBody → Type 0
GivesBelow gives tiers k p body = MatchOption (slice_get tiers (suc k)) (gives p body) (λ (t : TierState). slice_get t.held p ≡ Some (Some body))

-- a tier was turned, or began its turn and was refused memory
pub record TurnsState {E : Type 0} (board : Board) (told : Told) (gives : ℕ → SeenBody → Type 0) (result : Result Turn E) (s t : TierState) : Type 0 where
  pub answer : IfOk result (λ answer. IsTurn board told s answer t)
  pub none : OnErr result (t ≡ begun board s)
  pub tier : IsTier t
  pub same : KeepsSetup s t
  pub keeps : KeepsWishes board t
  pub brings : IfOk result (λ answer. BringsBody s.sizes answer t)
  pub got : IfOk result (λ answer. IfGot answer (λ p. gives p (body_at t p)))
  pub lost : IfOk result (λ answer. IfLost answer (λ p. told.has p ≡ false))

-- tier k of these was turned, and no other
pub record TurnsTier {E : Type 0} (board : Board) (told : Told) (gives : ℕ → SeenBody → Type 0) (k : ℕ) (result : Result Turn E) (a b : List TierState) : Type 0 where
  pub before : TierState
  pub after : TierState
  pub was : slice_get a k ≡ Some before
  pub is : b ≡ slice_set a k after
  pub turns : TurnsState board told gives result before after

-- tier k began its turn, and no more
pub record TakesWishes (board : Board) (k : ℕ) (a b : List TierState) : Type 0 where
  pub before : TierState
  pub was : slice_get a k ≡ Some before
  pub is : b ≡ slice_set a k (begun board before)

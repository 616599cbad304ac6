-- What one turn over the wishes that a tier keeps does to a level: to its tier, its seat and its floor.
use Rattle.std.specs.Prelude.{◌≡◌, ℕ, true, false, length, slice_index, Result, IfOk, OnErr, MatchResult}
use Rattle.file_model.specs.Lists.{SeenBody}
use Rattle.token_words.specs.Changes.{Stays}
use Rattle.token_table.specs.Known.{IsDesk}
use Rattle.token_table.specs.Seats.{is_pinned}
use Rattle.tier_model.specs.declared.turns.Turn.{Turn}
use Rattle.tier_model.specs.Tiers.{TierState, body_at, IsTier}
use Rattle.tier_model.specs.Answers.{IfGot, IfLost}
use Rattle.tier_model.specs.Choices.{Told}
use Rattle.tier_model.specs.Turns.{IsRankedTurn}
use Rattle.tier_model.specs.Keeping.{KeepsSetup}
use Rattle.tier_model.specs.Ties.{IsTied}
use Rattle.transfer_step.specs.TurnWords.{TurnsEpochs}
use Rattle.level_model.specs.Levels.{SeatSeen, FloorSeen}

-- the tier was turned, or was refused memory and stayed
pub record TurnsRanked {E : Type 0} (told : Told) (gives : ℕ → SeenBody → Type 0) (result : Result Turn E)
    (s t : TierState) : Type 0 where
  pub answer : IfOk result (λ answer. IsRankedTurn told s answer t)
  pub none : OnErr result (t ≡ s)
  pub tier : IsTier t
  pub same : KeepsSetup s t
  pub got : IfOk result (λ answer. IfGot answer (λ p. gives p (body_at t p)))
  pub lost : IfOk result (λ answer. IfLost answer (λ p. told.has p ≡ false))

-- the seat stays, but for the epochs, which the turn to tier t changed, and the refused evictions
pub record TurnsSeat {E : Type 0} (result : Result Turn E) (t : TierState) (seat later : SeatSeen) : Type 0 where
  pub has_words : later.has_words ≡ seat.has_words
  pub home : later.home ≡ seat.home
  pub tier : later.tier ≡ seat.tier
  pub made : later.desk.made ≡ seat.desk.made
  pub pins : later.desk.pins ≡ seat.desk.pins
  pub guest : later.desk.guest ≡ seat.desk.guest
  pub ended : later.desk.ended ≡ seat.desk.ended
  pub many : length later.desk.epochs ≡ length seat.desk.epochs
  pub epochs : MatchResult result (λ answer. TurnsEpochs seat.has_words answer (slice_index seat.desk.epochs)
      (slice_index later.desk.epochs)) (λ _. Stays (slice_index seat.desk.epochs) (slice_index later.desk.epochs))
  pub fits : seat.has_words ≡ true → IsDesk later.desk
  pub tied : seat.has_words ≡ true → IsTied t (slice_index later.desk.epochs) (is_pinned later.desk)

-- the floor is the same, but for the counts of its store
pub record KeepsFloor (floor later : FloorSeen) : Type 0 where
  pub has_store : later.has_store ≡ floor.has_store
  pub is_still : later.is_still ≡ floor.is_still
  pub files : later.files ≡ floor.files
  pub file : later.file ≡ floor.file
  pub lender : later.lender ≡ floor.lender

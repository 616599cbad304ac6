-- Each of a list of levels by its number.
use Rattle.std.proofs.Common.{◌≡◌, ℕ, zero, suc, ◌+◌, ◌≤◌, Bool, true, false, List, length, Some, subst, arith}
use Rattle.std.specs.Prelude.{slice_get}
use Rattle.std.specs.Bool.{MatchBool}
use Rattle.std.proofs.lemmas.Option.{same_Some}
use Rattle.file_model.specs.Lists.{IndexLists}
use Rattle.tier_model.specs.Tiers.{TierState}
use Rattle.level_model.specs.Levels.{RunSeen, SeatSeen, FloorSeen, IsTopSeat, IsLowerSeat, IsLevel}
use Rattle.level_model.specs.LevelLists.{AreLevels, LowestLevel, LevelAbove}

-- the tier is level n, whatever its seat and its floor
pub record IsLevelAt (run : RunSeen) (mesh : IndexLists) (n : ℕ) (s : TierState) : Type 0 where
  pub seat : SeatSeen
  pub floor : FloorSeen
  pub level : IsLevel run n mesh s seat floor

pub some_level : (run : RunSeen) (mesh : IndexLists) (k : ℕ) (seat : SeatSeen) (tiers : List TierState)
    (floor : FloorSeen)
    → AreLevels run mesh k seat tiers floor → 1 ≤ length tiers
some_level run mesh k seat _ floor (LowestLevel is_store level) = omega arith
some_level run mesh k seat _ floor (LevelAbove no_store level no_words below) = omega arith

pub each_level : (run : RunSeen) (mesh : IndexLists) (k : ℕ) (seat : SeatSeen) (tiers : List TierState)
    (floor : FloorSeen)
    → AreLevels run mesh k seat tiers floor → (j : ℕ) (s : TierState) → slice_get tiers j ≡ Some s
    → IsLevelAt run mesh (k + j) s
each_level run mesh k seat _ floor (LowestLevel {s = first} is_store level) zero s at =
    let here : k ≡ k + 0 = omega arith in
    subst (λ (n : ℕ). IsLevelAt run mesh n s) here
    (subst (IsLevelAt run mesh k) (same_Some first s at) (record { seat = seat; floor = floor; level = level }))
each_level run mesh k seat _ floor (LowestLevel is_store level) (suc j) s at = absurd (cc)
each_level run mesh k seat _ floor (LevelAbove {s = first} {none = none} no_store level no_words below) zero s at =
    let here : k ≡ k + 0 = omega arith in
    subst (λ (n : ℕ). IsLevelAt run mesh n s) here
    (subst (IsLevelAt run mesh k) (same_Some first s at) (record { seat = seat; floor = none; level = level }))
each_level run mesh k seat _ floor (LevelAbove {lower = lower} {below = others} no_store level no_words below)
    (suc j) s at =
    let later : suc k + j ≡ k + suc j = omega arith in
    subst (λ (n : ℕ). IsLevelAt run mesh n s) later (each_level run mesh (suc k) lower others floor below j s at)

-- ---- their seats

pub top_level : (run : RunSeen) (mesh : IndexLists) (k : ℕ) (seat : SeatSeen) (tiers : List TierState)
    (floor : FloorSeen)
    → AreLevels run mesh k seat tiers floor → seat.has_words ≡ true → (s : TierState) → slice_get tiers 0 ≡ Some s
    → IsTopSeat run.setup s seat.desk
top_level run mesh k seat _ floor (LowestLevel {s = first} is_store level) words s at =
    subst (λ (t : TierState). IsTopSeat run.setup t seat.desk) (same_Some first s at)
    (subst (λ (b : Bool). MatchBool b (IsTopSeat run.setup first seat.desk) (IsLowerSeat first)) words level.owned)
top_level run mesh k seat _ floor (LevelAbove {s = first} no_store level no_words below) words s at =
    subst (λ (t : TierState). IsTopSeat run.setup t seat.desk) (same_Some first s at)
    (subst (λ (b : Bool). MatchBool b (IsTopSeat run.setup first seat.desk) (IsLowerSeat first)) words level.owned)

-- a level without words
without_words : (run : RunSeen) (mesh : IndexLists) (k : ℕ) (seat : SeatSeen) (first s : TierState) (floor : FloorSeen)
    → IsLevel run k mesh first seat floor → seat.has_words ≡ false → first ≡ s → IsLowerSeat s
without_words run mesh k seat first s floor level words same =
    subst IsLowerSeat same
    (subst (λ (b : Bool). MatchBool b (IsTopSeat run.setup first seat.desk) (IsLowerSeat first)) words level.owned)

all_lower : (run : RunSeen) (mesh : IndexLists) (k : ℕ) (seat : SeatSeen) (tiers : List TierState) (floor : FloorSeen)
    → AreLevels run mesh k seat tiers floor → seat.has_words ≡ false → (j : ℕ) (s : TierState)
    → slice_get tiers j ≡ Some s → IsLowerSeat s
all_lower run mesh k seat _ floor (LowestLevel {s = first} is_store level) words zero s at =
    without_words run mesh k seat first s floor level words (same_Some first s at)
all_lower run mesh k seat _ floor (LowestLevel is_store level) words (suc j) s at = absurd (cc)
all_lower run mesh k seat _ floor (LevelAbove {s = first} {none = none} no_store level no_words below) words zero s at =
    without_words run mesh k seat first s none level words (same_Some first s at)
all_lower run mesh k seat _ floor (LevelAbove {lower = lower} {below = others} no_store level no_words below) words
    (suc j) s at =
    all_lower run mesh (suc k) lower others floor below no_words j s at

pub lower_level : (run : RunSeen) (mesh : IndexLists) (k : ℕ) (seat : SeatSeen) (tiers : List TierState)
    (floor : FloorSeen)
    → AreLevels run mesh k seat tiers floor → (j : ℕ) (s : TierState) → slice_get tiers (suc j) ≡ Some s → IsLowerSeat s
lower_level run mesh k seat _ floor (LowestLevel is_store level) j s at = absurd (cc)
lower_level run mesh k seat _ floor (LevelAbove {lower = lower} {below = others} no_store level no_words below) j s at =
    all_lower run mesh (suc k) lower others floor below no_words j s at

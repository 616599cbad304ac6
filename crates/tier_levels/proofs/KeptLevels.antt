-- What the lock of a level keeps, over one turn.
use Rattle.std.proofs.Common.{◌≡◌, ℕ, Bool, true, false, Some, Result, refl, sym, subst, ◌∙◌}
use Rattle.std.specs.Prelude.{slice_get, slice_index}
use Rattle.atomic_table.specs.Seated.{TableId}
use Rattle.file_model.specs.Lists.{IndexLists, SeenBody}
use Rattle.view_outside.specs.Files.{file_bytes}
use Rattle.tier_model.specs.declared.turns.Turn.{Turn}
use Rattle.tier_model.specs.Tiers.{TierState, body_at, is_held}
use Rattle.tier_model.specs.Choices.{Told}
use Rattle.tier_model.specs.Turns.{Board, begun}
use Rattle.transfer_step.specs.TurnWords.{told_of}
use Rattle.cache_chain.specs.AnswerMaps.{result_got_more}
use Rattle.cache_chain.specs.ChainStates.{IsFileBody, FindsChanged, HasBodies}
use Rattle.cache_chain.specs.WordTurns.{TurnsStore, NeverFails}
use Rattle.level_model.specs.Levels.{RunSeen, SeatSeen, FloorSeen, KeepsLevel}
use Rattle.level_model.specs.LevelTurns.{TurnsRanked, TurnsSeat, KeepsFloor}
use Rattle.level_model.specs.KeptTops.{seated_kept}
use Rattle.level_model.specs.LevelLaws.{level_begun, level_over_store, level_over_tier}

-- a turn that gives these bodies gives those that they are
pub ranked_more : {E : Type 0} (told : Told) (gives more : ℕ → SeenBody → Type 0) (result : Result Turn E) (s t : TierState) → ((p : ℕ) (body : SeenBody) → gives p body → more p body) → TurnsRanked told gives result s t
    → TurnsRanked told more result s t
ranked_more told gives more result s t are turned = record {
  answer = turned.answer;
  none = turned.none;
  tier = turned.tier;
  same = turned.same;
  got = result_got_more (λ p. gives p (body_at t p)) (λ p. more p (body_at t p)) (λ p. are p (body_at t p)) result turned.got;
  lost = turned.lost;
}

pub home_again : (home : TableId → TableId) (table named : TableId) → table ≡ named → home named ≡ named → home table ≡ table
home_again home table named same is = subst (λ (t : TableId). home t ≡ t) (sym same) is

pub keeps_begun : (board : Board) (run : RunSeen) (k : ℕ) (mesh : IndexLists) (s : TierState) (records later : Bool) (seat : SeatSeen) (floor : FloorSeen) → later ≡ records → KeepsLevel run k mesh s records seat floor
    → KeepsLevel run k mesh (begun board s) later seat floor
keeps_begun board run k mesh s records later seat floor same keeps = record {
  level = level_begun board run k mesh s seat floor keeps.level;
  seated = keeps.seated;
  records = same ∙ keeps.records;
}

pub keeps_over_store : {E : Type 0} (run : RunSeen) (k : ℕ) (mesh : IndexLists) (result : Result Turn E) (s t : TierState) (records later_records : Bool) (seat later : SeatSeen) (floor after : FloorSeen) → floor.has_store ≡ true → floor.is_still ≡ false
    → TurnsRanked (told_of (λ _. true) seat.has_words (slice_index seat.desk.epochs)) (IsFileBody mesh (file_bytes floor.files floor.file)) result s t → later_records ≡ records → TurnsSeat result t seat later
    → KeepsFloor floor after → TurnsStore (FindsChanged mesh (file_bytes floor.files floor.file)) s result floor.faults after.faults floor.taken after.taken
    → KeepsLevel run k mesh s records seat floor → KeepsLevel run k mesh t later_records later after
keeps_over_store run k mesh result s t records later_records seat later floor after is_store moves turned same turns keeps_floor store keeps = record {
  level = level_over_store run k mesh result s t seat later floor after is_store moves turned turns keeps_floor store keeps.level;
  seated = seated_kept run k result t seat later turns keeps.seated;
  records = same ∙ keeps.records;
}

pub keeps_over_tier : {E : Type 0} (run : RunSeen) (k : ℕ) (mesh : IndexLists) (below : TierState) (result : Result Turn E) (s t : TierState) (records later_records : Bool) (seat later : SeatSeen) (floor : FloorSeen) → floor.has_store ≡ false → floor.is_still ≡ false
    → TurnsRanked (told_of (is_held below) seat.has_words (slice_index seat.desk.epochs)) (λ p body. slice_get below.held p ≡ Some (Some body)) result s t → later_records ≡ records → TurnsSeat result t seat later
    → NeverFails result → HasBodies (IsFileBody run.setup.mesh run.setup.bytes) below → KeepsLevel run k mesh s records seat floor → KeepsLevel run k mesh t later_records later floor
keeps_over_tier run k mesh below result s t records later_records seat later floor is_tier moves turned same turns never bodies keeps = record {
  level = level_over_tier run k mesh below result s t seat later floor floor is_tier moves turned turns floor_stays never bodies keeps.level;
  seated = seated_kept run k result t seat later turns keeps.seated;
  records = same ∙ keeps.records;
}
  where
    floor_stays : KeepsFloor floor floor
    floor_stays = record { has_store = refl; is_still = refl; files = refl; file = refl; lender = refl }

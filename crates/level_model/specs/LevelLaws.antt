-- A level stays one: as it takes wishes, and in each turn, over a store or over another level.
use Rattle.std.proofs.Common.{◌≡◌, ℕ, ◌+◌, Bool, true, false, List, length, Option, Some, Result, IfSome, IfOk, sym, ap, subst, ◌∙◌, arith}
use Rattle.std.specs.Prelude.{slice_get, slice_index, if◌then◌else◌}
use Rattle.std.specs.Bool.{MatchBool}
use Rattle.std.specs.Borrow.{GName}
use Rattle.std.proofs.lemmas.Bool.{both_ways}
use Rattle.file_model.specs.Lists.{IndexLists, SeenBody}
use Rattle.view_outside.specs.Faults.{RoseBy}
use Rattle.view_outside.specs.Files.{file_bytes}
use Rattle.token_table.specs.Seats.{is_pinned}
use Rattle.token_table.specs.Setups.{Setup}
use Rattle.tier_model.specs.declared.turns.Turn.{Turn}
use Rattle.tier_model.specs.Places.{is_marked}
use Rattle.tier_model.specs.Tiers.{TierState, is_held}
use Rattle.tier_model.specs.Answers.{IfChanged}
use Rattle.tier_model.specs.Turns.{Board, begun}
use Rattle.tier_model.specs.Keeping.{HasSamePlaces, KeepsSetup}
use Rattle.tier_model.specs.Counts.{got_bytes, faults_in, lost_in, changes_in, commits_and_evicts, AreCounted}
use Rattle.tier_laws.specs.TierLaws.{IsTier-begun}
use Rattle.tier_laws.specs.TieLaws.{tied-begun}
use Rattle.tier_laws.specs.TurnLaws.{begun_places}
use Rattle.detail_laws.specs.Settled.{base-begun}
use Rattle.transfer_step.specs.TurnWords.{told_of}
use Rattle.cache_chain.specs.ChainStates.{IsFileBody, FindsChanged, HasBodies}
use Rattle.cache_chain.specs.BodyLaws.{bodies-begun}
use Rattle.cache_chain.specs.WordTurns.{TurnsStore, NeverFails}
use Rattle.level_model.specs.Levels.{RunSeen, SeatSeen, FloorSeen, IsTopSeat, IsLowerSeat, IsOverStore, IsOverTier, StandsOn, IsLevel}
use Rattle.level_model.specs.LevelTurns.{TurnsRanked, TurnsSeat, KeepsFloor}
use Rattle.level_model.specs.KeptTops.{journal_grows, budget_kept, made_kept, bases_kept, bodies_kept, lower_kept, owned_kept}
use Rattle.level_model.specs.KeptFloors.{none_changed, over_store_kept, over_tier_kept, said}

-- ---- a turn begins

keeps_setup : (s t : TierState) → HasSamePlaces s t → KeepsSetup s t
keeps_setup s t same = record {
  budget = same.budget;
  width = same.width;
  sizes = same.sizes;
  base = same.base;
  pinned = same.pinned;
}

counted-begun : (board : Board) (s : TierState) (epochs : ℕ → ℕ) → AreCounted s epochs
    → AreCounted (begun board s) epochs
counted-begun board s epochs counted =
    let same = begun_places board s in
    record {
      counted = λ p. counted.counted p
          ∙ ap (λ (journal : List Turn). commits_and_evicts journal p + (if is_marked s.base p then 1 else 0))
          (sym same.journal)
          ∙ ap (λ (marks : List Bool). commits_and_evicts (begun board s).journal p +
          (if is_marked marks p then 1 else 0)) (sym same.base);
    }

top-begun : (board : Board) (run : RunSeen) (s : TierState) (seat : SeatSeen) → IsTopSeat run.setup s seat.desk
    → IsTopSeat run.setup (begun board s) seat.desk
top-begun board run s seat top =
    let same = begun_places board s in
    record {
      many = top.many ∙ ap (λ (sizes : List ℕ). length sizes) (sym same.sizes);
      base = same.pinned ∙ top.base;
      pins = λ p. top.pins p ∙ ap (λ (marks : List Bool). is_marked marks p) (sym same.pinned);
      fits = top.fits;
      tied = tied-begun board s (slice_index seat.desk.epochs) (is_pinned seat.desk) top.tied;
      counted = counted-begun board s (slice_index seat.desk.epochs) top.counted;
    }

owned-begun : (board : Board) (run : RunSeen) (s : TierState) (seat : SeatSeen) (words : Bool)
    → MatchBool words (IsTopSeat run.setup s seat.desk) (IsLowerSeat s)
    → MatchBool words (IsTopSeat run.setup (begun board s) seat.desk) (IsLowerSeat (begun board s))
owned-begun board run s seat true top = top-begun board run s seat top
owned-begun board run s seat false lower = lower_kept s (begun board s)
    (keeps_setup s (begun board s) (begun_places board s)) lower

-- what is said of a tier's sizes and journal alone, is said of every tier with these
over-same : (setup : Setup) (lender : GName) (s t : TierState) (floor : FloorSeen) (has_store : Bool)
    → t.sizes ≡ s.sizes → t.journal ≡ s.journal
    → MatchBool has_store (IsOverStore setup lender s floor) (IsOverTier s)
    → MatchBool has_store (IsOverStore setup lender t floor) (IsOverTier t)
over-same setup lender s t floor true sizes journal over =
    let got = ap (λ (ns : List ℕ). got_bytes ns t.journal) sizes ∙ ap (got_bytes s.sizes) journal in
    let taken = over.taken in
    record {
      there = over.there;
      bytes = over.bytes;
      lent = over.lent;
      lost = ap lost_in journal ∙ over.lost;
      faults = subst (λ (entries : List Turn). RoseBy (faults_in entries) setup.faults floor.faults)
          (sym journal) over.faults;
      taken = omega arith;
    }
over-same setup lender s t floor false sizes journal
    over = record { faults = ap faults_in journal ∙ over.faults; changes = ap changes_in journal ∙ over.changes }

stands-same : (setup : Setup) (lender : GName) (s t : TierState) (floor : FloorSeen) → t.sizes ≡ s.sizes
    → t.journal ≡ s.journal → StandsOn setup lender s floor → StandsOn setup lender t floor
stands-same setup lender s t floor sizes journal stands = record {
  over = over-same setup lender s t floor floor.has_store sizes journal stands.over;
  still = λ still. journal ∙ stands.still still;
  unchanged = subst (λ (entries : List Turn). IfSome setup.bytes (λ _. changes_in entries ≡ 0))
      (sym journal) stands.unchanged;
}

pub level_begun : (board : Board) (run : RunSeen) (k : ℕ) (mesh : IndexLists) (s : TierState) (seat : SeatSeen)
    (floor : FloorSeen) → IsLevel run k mesh s seat floor → IsLevel run k mesh (begun board s) seat floor
level_begun board run k mesh s seat floor level =
    let same = begun_places board s in
    let setup = keeps_setup s (begun board s) same in
    record {
      right = level.right;
      budget = budget_kept run.setup k s (begun board s) (IsTier-begun board s level.budget.tier) setup level.budget;
      of_setup = record {
        same = level.of_setup.same;
        made = made_kept run.setup.mesh s (begun board s) setup level.of_setup.made;
        bodies = bodies-begun (IsFileBody run.setup.mesh run.setup.bytes) board s level.of_setup.bodies;
        bases = base-begun board s level.of_setup.bases;
      };
      owned = owned-begun board run s seat seat.has_words level.owned;
      stands = stands-same run.setup run.lender s (begun board s) floor same.sizes same.journal level.stands;
    }

-- ---- a turn over a store

moves_on : (floor after : FloorSeen) → floor.is_still ≡ false → KeepsFloor floor after → after.is_still ≡ true → ⊥
moves_on floor after moves same still = both_ways floor.is_still moves (sym same.is_still ∙ still)

pub level_over_store : {E : Type 0} (run : RunSeen) (k : ℕ) (mesh : IndexLists) (result : Result Turn E)
    (s t : TierState) (seat later : SeatSeen) (floor after : FloorSeen) → floor.has_store ≡ true
    → floor.is_still ≡ false
    → TurnsRanked (told_of (λ _. true) seat.has_words (slice_index seat.desk.epochs))
    (IsFileBody mesh (file_bytes floor.files floor.file)) result s t → TurnsSeat result t seat later
    → KeepsFloor floor after
    → TurnsStore (FindsChanged mesh (file_bytes floor.files floor.file)) s result floor.faults after.faults floor.taken
    after.taken → IsLevel run k mesh s seat floor → IsLevel run k mesh t later after
level_over_store run k mesh result s t seat later floor after is_store moves turned turns same store level =
    let setup = run.setup in
    let bytes = file_bytes floor.files floor.file in
    let told = told_of (λ _. true) seat.has_words (slice_index seat.desk.epochs) in
    let gives = IsFileBody mesh bytes in
    let over = subst (λ (b : Bool). MatchBool b (IsOverStore setup run.lender s floor) (IsOverTier s)) is_store
    level.stands.over in
    let right : (p : ℕ) (body : SeenBody) → gives p body → IsFileBody setup.mesh setup.bytes p body =
    λ p body given. subst (λ (bs : Option (List ℕ)). IsFileBody setup.mesh bs p body) over.bytes
    (subst (λ (i : IndexLists). IsFileBody i bytes p body) level.of_setup.same given) in
    record {
      right = level.right;
      budget = budget_kept setup k s t turned.tier turned.same level.budget;
      of_setup = record {
        same = level.of_setup.same;
        made = made_kept setup.mesh s t turned.same level.of_setup.made;
        bodies = bodies_kept (IsFileBody setup.mesh setup.bytes) told gives result s t right level.budget.tier turned
            level.of_setup.bodies;
        bases = bases_kept told gives result s t level.budget.tier turned level.of_setup.bases;
      };
      owned = owned_kept setup (λ _. true) gives result s t seat later turned turns level.owned;
      stands = record {
        over = subst (λ (b : Bool). MatchBool b (IsOverStore setup run.lender t after) (IsOverTier t))
            (sym (same.has_store ∙ is_store))
            (over_store_kept setup run.lender (FindsChanged mesh bytes) seat.has_words
            (slice_index seat.desk.epochs) gives result s t floor after turned same store over);
        still = λ still. absurd (moves_on floor after moves same still);
        unchanged = none_changed mesh setup.bytes result s t level.right
            (subst (λ (bs : Option (List ℕ)). IfOk result (λ answer. IfChanged answer (FindsChanged mesh bs)))
            over.bytes store.changed)
            (journal_grows told gives result s t turned) level.stands.unchanged;
      };
    }

-- ---- a turn over another level

pub level_over_tier : {E : Type 0} (run : RunSeen) (k : ℕ) (mesh : IndexLists) (below : TierState)
    (result : Result Turn E) (s t : TierState) (seat later : SeatSeen) (floor after : FloorSeen)
    → floor.has_store ≡ false → floor.is_still ≡ false
    → TurnsRanked (told_of (is_held below) seat.has_words (slice_index seat.desk.epochs))
    (λ p body. slice_get below.held p ≡ Some (Some body)) result s t → TurnsSeat result t seat later
    → KeepsFloor floor after
    → NeverFails result → HasBodies (IsFileBody run.setup.mesh run.setup.bytes) below → IsLevel run k mesh s seat floor
    → IsLevel run k mesh t later after
level_over_tier run k mesh below result s t seat later floor after is_tier moves turned turns same never bodies level =
    let setup = run.setup in
    let told = told_of (is_held below) seat.has_words (slice_index seat.desk.epochs) in
    let gives : ℕ → SeenBody → Type 0 = λ p body. slice_get below.held p ≡ Some (Some body) in
    let over = subst (λ (b : Bool). MatchBool b (IsOverStore setup run.lender s floor) (IsOverTier s)) is_tier
    level.stands.over in
    let now = over_tier_kept result s t (journal_grows told gives result s t turned) never over in
    record {
      right = level.right;
      budget = budget_kept setup k s t turned.tier turned.same level.budget;
      of_setup = record {
        same = level.of_setup.same;
        made = made_kept setup.mesh s t turned.same level.of_setup.made;
        bodies = bodies_kept (IsFileBody setup.mesh setup.bytes) told gives result s t
            (λ p body held. bodies.held p body held) level.budget.tier turned level.of_setup.bodies;
        bases = bases_kept told gives result s t level.budget.tier turned level.of_setup.bases;
      };
      owned = owned_kept setup (is_held below) gives result s t seat later turned turns level.owned;
      stands = record {
        over = subst (λ (b : Bool). MatchBool b (IsOverStore setup run.lender t after) (IsOverTier t))
            (sym (same.has_store ∙ is_tier)) now;
        still = λ still. absurd (moves_on floor after moves same still);
        unchanged = said (changes_in t.journal ≡ 0) setup.bytes now.changes;
      };
    }

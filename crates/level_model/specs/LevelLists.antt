-- The levels of a run in their order, the top one first.
use Rattle.std.proofs.Common.{◌≡◌, ℕ, zero, suc, ◌+◌, Bool, true, false, nat_eq, List, [], ◌∷◌, length, map, Some, refl, sym, ap, subst, ◌∙◌, arith}
use Rattle.std.specs.Prelude.{slice_get, slice_index}
use Rattle.std.specs.Bool.{MatchBool}
use Rattle.std.proofs.lemmas.Bool.{both_ways}
use Rattle.std.proofs.lemmas.Option.{same_Some}
use Rattle.atomic_table.specs.Seated.{TableId}
use Rattle.file_model.specs.Lists.{IndexLists, SeenBody}
use Rattle.mesh_model.specs.Graph.{outgoing}
use Rattle.mesh_model.specs.Meshes.{MeshLists, IsMesh}
use Rattle.token_table.specs.declared.knowledge.Desk.{Desk}
use Rattle.token_table.specs.Known.{IsDesk}
use Rattle.token_table.specs.Seats.{is_pinned}
use Rattle.token_table.specs.Makings.{ArePins}
use Rattle.token_table.specs.Setups.{Setup}
use Rattle.token_table.specs.WordRule.{opened, no_desk}
use Rattle.tier_model.specs.Tiers.{TierState}
use Rattle.tier_model.specs.Changes.{fresh}
use Rattle.tier_model.specs.Chains.{opened_top, opened_tiers}
use Rattle.tier_laws.specs.TieLaws.{tied-again}
use Rattle.detail_laws.specs.Needs.{KeepsBase}
use Rattle.detail_laws.specs.BaseLaws.{base-opened}
use Rattle.cache_chain.specs.ChainStates.{IsTierOf, AreTiersOf}
use Rattle.cache_chain.specs.Opening.{IsOpened}
use Rattle.level_model.specs.Levels.{RunSeen, SeatSeen, FloorSeen, seat_of, tier_floor, IsFileOf, IsTopSeat, IsLowerSeat, IsOverStore, IsOverTier, IsLevel}
use Rattle.level_model.specs.FirstLevels.{IsFirstFloor, IsFirstTier, level_starts, top_starts, top_of_opened}

-- these tiers are the levels from number k on, the first with this seat and the last on this floor, a store
pub data AreLevels (run : RunSeen) (mesh : IndexLists) : ℕ → SeatSeen → List TierState → FloorSeen → Type 0 where
  LowestLevel : {k : ℕ} {seat : SeatSeen} {s : TierState} {floor : FloorSeen} → floor.has_store ≡ true
      → IsLevel run k mesh s seat floor → AreLevels run mesh k seat (s ∷ []) floor
  LevelAbove : {k : ℕ} {seat lower : SeatSeen} {s : TierState} {below : List TierState} {none floor : FloorSeen}
      → none.has_store ≡ false → IsLevel run k mesh s seat none → lower.has_words ≡ false
      → AreLevels run mesh (suc k) lower below floor → AreLevels run mesh k seat (s ∷ below) floor

-- ---- taken apart

-- one level alone stands on the store
pub record IsOneLevel (run : RunSeen) (mesh : IndexLists) (k : ℕ) (seat : SeatSeen) (s : TierState)
    (floor : FloorSeen) : Type 0 where
  pub is_store : floor.has_store ≡ true
  pub level : IsLevel run k mesh s seat floor

-- the first of several stands on the next
pub record HasLevelsBelow (run : RunSeen) (mesh : IndexLists) (k : ℕ) (seat : SeatSeen) (s : TierState)
    (others : List TierState) (floor : FloorSeen) : Type 0 where
  pub lower : SeatSeen
  pub none : FloorSeen
  pub no_store : none.has_store ≡ false
  pub no_words : lower.has_words ≡ false
  pub level : IsLevel run k mesh s seat none
  pub below : AreLevels run mesh (suc k) lower others floor

no_levels : (run : RunSeen) (mesh : IndexLists) (k : ℕ) (seat : SeatSeen) (floor : FloorSeen)
    → AreLevels run mesh k seat [] floor → ⊥
no_levels run mesh k seat floor are = elim are [ ]

pub one_level : (run : RunSeen) (mesh : IndexLists) (k : ℕ) (seat : SeatSeen) (s : TierState) (floor : FloorSeen)
    → AreLevels run mesh k seat (s ∷ []) floor → IsOneLevel run mesh k seat s floor
one_level run mesh k seat s floor (LowestLevel is_store level) = record { is_store = is_store; level = level }
one_level run mesh k seat s floor (LevelAbove {lower = lower} no_store level no_words below) = absurd
    (no_levels run mesh (suc k) lower floor below)

pub levels_below : (run : RunSeen) (mesh : IndexLists) (k : ℕ) (seat : SeatSeen) (s next : TierState)
    (others : List TierState) (floor : FloorSeen) → AreLevels run mesh k seat (s ∷ next ∷ others) floor
    → HasLevelsBelow run mesh k seat s (next ∷ others) floor
levels_below run mesh k seat s next others floor (LevelAbove {lower = lower} {none = none} no_store level no_words
    below) = record {
      lower = lower;
      none = none;
      no_store = no_store;
      no_words = no_words;
      level = level;
      below = below;
    }

-- ---- put together again

-- over a tier a level is one, whatever its floor is called, unless that is a still one
pub level_above_again : (run : RunSeen) (k : ℕ) (mesh : IndexLists) (s : TierState) (seat : SeatSeen)
    (none other : FloorSeen) → none.has_store ≡ false → other.has_store ≡ false → other.is_still ≡ false
    → IsLevel run k mesh s seat none
    → IsLevel run k mesh s seat other
level_above_again run k mesh s seat none other is is_other moves level =
    let over = subst (λ (b : Bool). MatchBool b (IsOverStore run.setup run.lender s none) (IsOverTier s)) is
    level.stands.over in
    record {
      right = level.right;
      budget = level.budget;
      of_setup = level.of_setup;
      owned = level.owned;
      stands = record {
        over = subst (λ (b : Bool). MatchBool b (IsOverStore run.setup run.lender s other) (IsOverTier s))
            (sym is_other) over;
        still = λ still. absurd (both_ways other.is_still moves still);
        unchanged = level.stands.unchanged;
      };
    }

-- a lower level is one, whatever its seat is called
pub lower_again : (run : RunSeen) (k : ℕ) (mesh : IndexLists) (s : TierState) (lower again : SeatSeen)
    (floor : FloorSeen) → lower.has_words ≡ false → again.has_words ≡ false → IsLevel run k mesh s lower floor
    → IsLevel run k mesh s again floor
lower_again run k mesh s lower again floor is is_again level =
    let owned = subst (λ (b : Bool). MatchBool b (IsTopSeat run.setup s lower.desk) (IsLowerSeat s)) is level.owned in
    record {
      right = level.right;
      budget = level.budget;
      of_setup = level.of_setup;
      owned = subst (λ (b : Bool). MatchBool b (IsTopSeat run.setup s again.desk) (IsLowerSeat s)) (sym is_again) owned;
      stands = level.stands;
    }

-- ---- a keeper that learns of sessions

top_seat_later : (setup : Setup) (s : TierState) (desk later : Desk) → later.epochs ≡ desk.epochs
    → later.pins ≡ desk.pins → IsDesk later → IsTopSeat setup s desk → IsTopSeat setup s later
top_seat_later setup s desk later epochs pins fits top =
    let pinned : (p : ℕ) → is_pinned later p ≡ is_pinned desk p = λ p. ap
    (λ (ns : List ℕ). nat_eq (slice_index ns p) 1) pins in
    let epoch : (p : ℕ) → slice_index later.epochs p ≡ slice_index desk.epochs p = λ p. ap
    (λ (ns : List ℕ). slice_index ns p) epochs in
    record {
      many = ap (λ (ns : List ℕ). length ns) epochs ∙ top.many;
      base = top.base;
      pins = λ p. pinned p ∙ top.pins p;
      fits = fits;
      tied = tied-again s (slice_index desk.epochs) (slice_index later.epochs) (is_pinned desk)
          (is_pinned later) epoch pinned top.tied;
      counted = record { counted = λ p. epoch p ∙ top.counted.counted p };
    }

-- the top level is one as long as the keeper keeps epochs and pins: sessions that gave their seats back change nothing
pub level_later : (run : RunSeen) (k : ℕ) (mesh : IndexLists) (s : TierState) (home : TableId) (tier : ℕ)
    (desk later : Desk) (floor : FloorSeen) → later.epochs ≡ desk.epochs → later.pins ≡ desk.pins → IsDesk later
    → IsLevel run k mesh s (seat_of true home tier desk) floor
    → IsLevel run k mesh s (seat_of true home tier later) floor
level_later run k mesh s home tier desk later floor epochs pins fits level = record {
  right = level.right;
  budget = level.budget;
  of_setup = level.of_setup;
  owned = top_seat_later run.setup s desk later epochs pins fits level.owned;
  stands = level.stands;
}

pub levels_later : (run : RunSeen) (mesh : IndexLists) (k : ℕ) (home : TableId) (tier : ℕ) (desk later : Desk)
    (tiers : List TierState) (floor : FloorSeen) → later.epochs ≡ desk.epochs → later.pins ≡ desk.pins → IsDesk later
    → AreLevels run mesh k (seat_of true home tier desk) tiers floor
    → AreLevels run mesh k (seat_of true home tier later) tiers floor
levels_later run mesh k home tier desk later tiers floor epochs pins fits (LowestLevel {s = s} is_store level) =
    LowestLevel is_store (level_later run k mesh s home tier desk later floor epochs pins fits level)
levels_later run mesh k home tier desk later tiers floor epochs pins fits
    (LevelAbove {s = s} {none = none} no_store level no_words below) =
    LevelAbove no_store (level_later run k mesh s home tier desk later none epochs pins fits level) no_words below

-- ---- at the opening

-- what each tier of a chain that opens is made with
record IsOpenedTier (budgets : List ℕ) (width k : ℕ) (s : TierState) : Type 0 where
  budget : slice_get budgets k ≡ Some s.budget
  width_is : s.width ≡ width
  begins : s.journal ≡ []

fresh_tier : (index : IndexLists) (width : ℕ) (budgets : List ℕ) (k : ℕ) (s : TierState)
    → slice_get (map (λ b. fresh index b width) budgets) k ≡ Some s → IsOpenedTier budgets width k s
unfolding fresh
fresh_tier index width [] k s at = absurd (cc)
fresh_tier index width (b ∷ budgets) zero s at =
    subst (IsOpenedTier (b ∷ budgets) width 0) (same_Some (fresh index b width) s at)
    (record { budget = refl; width_is = refl; begins = refl })
fresh_tier index width (b ∷ budgets) (suc k) s at =
    let tier = fresh_tier index width budgets k s at in
    record { budget = tier.budget; width_is = tier.width_is; begins = tier.begins }

opened_tier : (index : IndexLists) (body : ℕ → SeenBody) (budgets : List ℕ) (width k : ℕ) (s : TierState)
    → slice_get (opened_tiers index body budgets width) k ≡ Some s → IsOpenedTier budgets width k s
unfolding opened_tiers opened_top fresh
opened_tier index body [] width k s at = absurd (cc)
opened_tier index body (budget ∷ budgets) width zero s at =
    subst (IsOpenedTier (budget ∷ budgets) width 0) (same_Some (opened_top index body budget width) s at)
    (record { budget = refl; width_is = refl; begins = refl })
opened_tier index body (budget ∷ budgets) width (suc k) s at =
    let tier = fresh_tier index width budgets k s at in
    record { budget = tier.budget; width_is = tier.width_is; begins = tier.begins }

bases_opened : (index : IndexLists) (body : ℕ → SeenBody) (budgets : List ℕ) (width k : ℕ) (s : TierState)
    → slice_get (opened_tiers index body budgets width) k ≡ Some s → KeepsBase s
unfolding opened_tiers
bases_opened index body [] width k s at = absurd (cc)
bases_opened index body (budget ∷ budgets) width k s
    at = (base-opened index body budget budgets width k s at (λ p. true)).0

-- each tier of a chain that opens is as it was made
pub first_tier : (setup : Setup) (mesh : IndexLists) (tiers : List TierState) (k : ℕ) (s : TierState)
    → mesh ≡ setup.mesh → AreTiersOf mesh setup.bytes tiers → IsOpened mesh setup.bytes setup.budgets setup.width tiers
    → slice_get tiers k ≡ Some s
    → IsFirstTier setup k s
first_tier setup mesh tiers k s same are opens at =
    let there = sym (ap (λ (ts : List TierState). slice_get ts k) opens.is) ∙ at in
    let made = opened_tier mesh opens.body setup.budgets setup.width k s there in
    record {
      budget = made.budget;
      width = made.width_is;
      of_file = subst (λ (i : IndexLists). IsTierOf i setup.bytes s) same (are.each k s at);
      bases = bases_opened mesh opens.body setup.budgets setup.width k s there;
      begins = made.begins;
    }

-- what stands on the last floor, given the floors between
lower_levels : (run : RunSeen) (mesh : IndexLists) (floor : FloorSeen) → floor.has_store ≡ true
    → IsFirstFloor run.setup run.lender floor → (s : TierState) (others : List TierState) (k : ℕ)
    → ((j : ℕ) (t : TierState) (fl : FloorSeen) → slice_get (s ∷ others) j ≡ Some t
    → IsFirstFloor run.setup run.lender fl → IsLevel run (k + j) mesh t (seat_of false run.table (k + j) no_desk) fl)
    → AreLevels run mesh k (seat_of false run.table k no_desk) (s ∷ others) floor
lower_levels run mesh floor is_store first s [] k each =
    let here : k + 0 ≡ k = omega arith in
    LowestLevel is_store (subst (λ (n : ℕ). IsLevel run n mesh s (seat_of false run.table n no_desk) floor) here
    (each 0 s floor refl first))
lower_levels run mesh floor is_store first s (next ∷ others) k each =
    let here : k + 0 ≡ k = omega arith in
    LevelAbove {none = tier_floor} refl
    (subst (λ (n : ℕ). IsLevel run n mesh s (seat_of false run.table n no_desk) tier_floor) here
    (each 0 s tier_floor refl (record { store = λ store. absurd (cc) })))
    refl
    (lower_levels run mesh floor is_store first next others (suc k)
    (λ j t fl at begins. let later : k + suc j ≡ suc k + j = omega arith in subst
    (λ (n : ℕ). IsLevel run n mesh t (seat_of false run.table n no_desk) fl) later (each (suc j) t fl at begins)))

pub levels_start : (run : RunSeen) (mesh : MeshLists) (tiers : List TierState) (home : TableId) (desk : Desk)
    (sessions : ℕ) (floor : FloorSeen) → IsMesh mesh → mesh.index ≡ run.setup.mesh → IsFileOf mesh.index run.setup.bytes
    → AreTiersOf mesh.index run.setup.bytes tiers
    → IsOpened mesh.index run.setup.bytes run.setup.budgets run.setup.width tiers
    → ArePins (length mesh.index.fields) (outgoing mesh.index.fields mesh.root) desk.pins
    → desk ≡ record (opened desk.pins) { made = sessions } → IsDesk desk → floor.has_store ≡ true
    → IsFirstFloor run.setup run.lender floor → AreLevels run mesh.index 0 (seat_of true home 0 desk) tiers floor
levels_start run mesh [] home desk sessions floor facts same right are opens pins made fits is_store
    first = let some_tier = are.some_tier in absurd (omega arith)
levels_start run mesh (s ∷ []) home desk sessions floor facts same right are opens pins made fits is_store first =
    let is = top_of_opened mesh.index run.setup.bytes run.setup.budgets run.setup.width (s ∷ []) s opens refl in
    let top = top_starts run.setup mesh opens.body is.0 run.setup.width s desk sessions facts same is.1 pins made
    fits in
    LowestLevel is_store (level_starts run 0 mesh.index s (seat_of true home 0 desk) floor right same
    (first_tier run.setup mesh.index (s ∷ []) 0 s same are opens refl) top first)
levels_start run mesh (s ∷ next ∷ others) home desk sessions floor facts same right are opens pins made fits is_store
    first =
    let tiers = s ∷ next ∷ others in
    let is = top_of_opened mesh.index run.setup.bytes run.setup.budgets run.setup.width tiers s opens refl in
    let top = top_starts run.setup mesh opens.body is.0 run.setup.width s desk sessions facts same is.1 pins made
    fits in
    LevelAbove {none = tier_floor} refl
    (level_starts run 0 mesh.index s (seat_of true home 0 desk) tier_floor right same
    (first_tier run.setup mesh.index tiers 0 s same are opens refl) top (record { store = λ store. absurd (cc) }))
    refl
    (lower_levels run mesh.index floor is_store first next others 1
    (λ j t fl at begins. let later : suc j ≡ 1 + j = omega arith in
    subst (λ (n : ℕ). IsLevel run n mesh.index t (seat_of false run.table n no_desk) fl) later
    (level_starts run (suc j) mesh.index t (seat_of false run.table (suc j) no_desk) fl right same
    (first_tier run.setup mesh.index tiers (suc j) t same are opens at)
    (record { unpinned = λ p. are.others j t p at }) begins)))

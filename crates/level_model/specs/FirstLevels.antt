-- At the opening tiers are levels.
use Rattle.std.proofs.Common.{◌≡◌, ℕ, ◌≤◌, Bool, true, false, nat_eq, List, [], ◌∷◌, length, Option, Some, refl, sym, ap, subst, ◌∙◌, arith}
use Rattle.std.specs.Prelude.{slice_get, slice_index, if◌then◌else◌}
use Rattle.std.specs.Bool.{MatchBool}
use Rattle.std.specs.Borrow.{GName}
use Rattle.std.proofs.lemmas.Option.{same_Some}
use Rattle.std.proofs.lemmas.List.{length-map}
use Rattle.file_model.specs.Lists.{IndexLists, SeenBody, body_size}
use Rattle.view_outside.specs.Faults.{RoseBy}
use Rattle.view_outside.specs.Files.{HasFile, file_bytes}
use Rattle.view_outside.specs.Taken.{taken_after}
use Rattle.mesh_model.specs.Graph.{outgoing}
use Rattle.mesh_model.specs.Meshes.{MeshLists, IsMesh}
use Rattle.token_table.specs.declared.knowledge.Desk.{Desk}
use Rattle.token_table.specs.Known.{IsDesk}
use Rattle.token_table.specs.Seats.{is_pinned}
use Rattle.token_table.specs.Makings.{ArePins}
use Rattle.token_table.specs.Setups.{Setup}
use Rattle.token_table.specs.WordRule.{opened}
use Rattle.tier_model.specs.Places.{is_marked}
use Rattle.tier_model.specs.Tiers.{TierState, base_marks}
use Rattle.tier_model.specs.Changes.{fresh}
use Rattle.tier_model.specs.Chains as chains
use Rattle.tier_model.specs.Chains.{opened_top, opened_tiers}
use Rattle.tier_model.specs.Counts.{got_bytes, faults_in, lost_in, changes_in}
use Rattle.tier_laws.specs.TieLaws.{tied-again}
use Rattle.tier_laws.specs.OpeningLaws.{tied-opened, counted-opened}
use Rattle.detail_laws.specs.Needs.{KeepsBase}
use Rattle.cache_chain.specs.BaseLaws.{base_listed}
use Rattle.cache_chain.specs.ChainStates.{IsTierOf}
use Rattle.cache_chain.specs.Opening.{IsOpened}
use Rattle.level_model.specs.Levels.{RunSeen, SeatSeen, FloorSeen, IsFileOf, IsTopSeat, IsLowerSeat, IsOverStore, IsOverTier, StandsOn, IsLevel}
use Rattle.level_model.specs.KeptFloors.{said}

-- the store's counts are at least those that the run began with
pub record IsFirstStore (setup : Setup) (lender : GName) (floor : FloorSeen) : Type 0 where
  pub there : HasFile floor.files floor.file
  pub bytes : file_bytes floor.files floor.file ≡ setup.bytes
  pub lent : floor.lender ≡ lender
  pub faults : setup.faults ≤ floor.faults
  pub taken : setup.taken ≤ floor.taken

-- if the floor is a store, it is the run's
pub record IsFirstFloor (setup : Setup) (lender : GName) (floor : FloorSeen) : Type 0 where
  pub store : floor.has_store ≡ true → IsFirstStore setup lender floor

-- the tier is as it was made, and its journal has no entry yet
pub record IsFirstTier (setup : Setup) (k : ℕ) (s : TierState) : Type 0 where
  pub budget : slice_get setup.budgets k ≡ Some s.budget
  pub width : s.width ≡ setup.width
  pub of_file : IsTierOf setup.mesh setup.bytes s
  pub bases : KeepsBase s
  pub begins : s.journal ≡ []

-- ---- any level

over_first : (setup : Setup) (lender : GName) (s : TierState) (floor : FloorSeen) → s.journal ≡ []
    → IsFirstFloor setup lender floor → (has_store : Bool) → floor.has_store ≡ has_store
    → MatchBool has_store (IsOverStore setup lender s floor) (IsOverTier s)
unfolding lost_in faults_in got_bytes changes_in
over_first setup lender s floor begins first true is =
    let store = first.store is in
    let got = ap (got_bytes s.sizes) begins in
    let faults = ap faults_in begins in
    let rose = store.faults in
    let taken = store.taken in
    record {
      there = store.there;
      bytes = store.bytes;
      lent = store.lent;
      lost = ap lost_in begins;
      faults = subst (λ (n : ℕ). RoseBy n setup.faults floor.faults) (sym faults) (omega arith);
      taken = subst (λ (n : ℕ). taken_after setup.taken n ≤ floor.taken) (sym got) (omega arith);
    }
over_first setup lender s floor begins first false
    is = record { faults = ap faults_in begins; changes = ap changes_in begins }

stands_first : (setup : Setup) (lender : GName) (s : TierState) (floor : FloorSeen) → s.journal ≡ []
    → IsFirstFloor setup lender floor → StandsOn setup lender s floor
unfolding changes_in
stands_first setup lender s floor begins first = record {
  over = over_first setup lender s floor begins first floor.has_store refl;
  still = λ still. begins;
  unchanged = said (changes_in s.journal ≡ 0) setup.bytes (ap changes_in begins);
}

pub level_starts : (run : RunSeen) (k : ℕ) (mesh : IndexLists) (s : TierState) (seat : SeatSeen) (floor : FloorSeen)
    → IsFileOf mesh run.setup.bytes → mesh ≡ run.setup.mesh → IsFirstTier run.setup k s
    → MatchBool seat.has_words (IsTopSeat run.setup s seat.desk) (IsLowerSeat s)
    → IsFirstFloor run.setup run.lender floor → IsLevel run k mesh s seat floor
level_starts run k mesh s seat floor right same tier owned first = record {
  right = right;
  budget = record { budget = tier.budget; width = tier.width; tier = tier.of_file.tier };
  of_setup = record { same = same; made = tier.of_file.made; bodies = tier.of_file.bodies; bases = tier.bases };
  owned = owned;
  stands = stands_first run.setup run.lender s floor tier.begins first;
}

-- a level over which no turn is made is one over any floor that it may begin on
pub level_moves : (run : RunSeen) (k : ℕ) (mesh : IndexLists) (s : TierState) (seat : SeatSeen)
    (still floor : FloorSeen) → still.is_still ≡ true → IsFirstFloor run.setup run.lender floor
    → IsLevel run k mesh s seat still → IsLevel run k mesh s seat floor
level_moves run k mesh s seat still floor is first level = record {
  right = level.right;
  budget = level.budget;
  of_setup = level.of_setup;
  owned = level.owned;
  stands = stands_first run.setup run.lender s floor (level.stands.still is) first;
}

-- ---- the top level

is_one : (b : Bool) → nat_eq (if b then 1 else 0) 1 ≡ b
is_one true = refl
is_one false = refl

-- the keeper that was made with the mesh's base is that of the tier which holds the base
pub top_starts : (setup : Setup) (mesh : MeshLists) (body : ℕ → SeenBody) (budget width : ℕ) (s : TierState)
    (desk : Desk) (sessions : ℕ) → IsMesh mesh → mesh.index ≡ setup.mesh → s ≡ opened_top mesh.index body budget width
    → ArePins (length mesh.index.fields) (outgoing mesh.index.fields mesh.root) desk.pins
    → desk ≡ record (opened desk.pins) { made = sessions } → IsDesk desk → IsTopSeat setup s desk
unfolding chains.opened opened_top fresh
top_starts setup mesh body budget width s desk sessions facts same is pins made fits =
    let index = mesh.index in
    let top = opened_top index body budget width in
    let epochs_are : desk.epochs ≡ desk.pins = ap (λ (d : Desk). d.epochs) made in
    let marks = base_marks index.fields in
    let pin : (p : ℕ) → slice_index desk.pins p ≡ (if is_marked marks p then 1 else 0) = λ p. pins.each p
    ∙ ap (λ (b : Bool). if b then 1 else 0) (base_listed mesh facts p) in
    let pinned : (p : ℕ) → is_pinned desk p ≡ is_marked marks p = λ p. ap (λ (n : ℕ). nat_eq n 1) (pin p)
    ∙ is_one (is_marked marks p) in
    let epoch : (p : ℕ) → slice_index desk.epochs p ≡ (if is_marked marks p then 1 else 0) = λ p. ap
    (λ (ns : List ℕ). slice_index ns p) epochs_are ∙ pin p in
    let counted = counted-opened index body [] budget width in
    subst (λ (t : TierState). IsTopSeat setup t desk) (sym is) (record {
      many = ap (λ (ns : List ℕ). length ns) epochs_are ∙ pins.many
          ∙ sym (length-map index.fields (body_size index.version));
      base = ap (λ (i : IndexLists). base_marks i.fields) same;
      pins = pinned;
      fits = fits;
      tied = tied-again top (chains.opened index body [] width).epochs (slice_index desk.epochs) (is_marked marks)
          (is_pinned desk) epoch pinned (tied-opened index body [] budget width);
      counted = record { counted = λ p. epoch p ∙ counted.counted p };
    })

-- ---- the tiers of a chain that opens

first_opened : (index : IndexLists) (body : ℕ → SeenBody) (budgets : List ℕ) (width : ℕ) (s : TierState)
    → slice_get (opened_tiers index body budgets width) 0 ≡ Some s
    → (budget : ℕ) × (s ≡ opened_top index body budget width)
unfolding opened_tiers
first_opened index body [] width s at = absurd (cc)
first_opened index body (budget ∷ budgets) width s
    at = (budget, sym (same_Some (opened_top index body budget width) s at))

pub top_of_opened : (index : IndexLists) (bytes : Option (List ℕ)) (budgets : List ℕ) (width : ℕ)
    (tiers : List TierState) (s : TierState) → (opens : IsOpened index bytes budgets width tiers)
    → slice_get tiers 0 ≡ Some s
    → (budget : ℕ) × (s ≡ opened_top index opens.body budget width)
top_of_opened index bytes budgets width tiers s opens at = first_opened index opens.body budgets width s
    (sym (ap (λ (ts : List TierState). slice_get ts 0) opens.is) ∙ at)

pub top_journal : (index : IndexLists) (body : ℕ → SeenBody) (budget width : ℕ)
    → (opened_top index body budget width).journal ≡ []
unfolding opened_top fresh
top_journal index body budget width = refl

-- A level of a run by threads: a tier with the seat of its owner and the floor that it stands on.
use Rattle.std.specs.Prelude.{◌≡◌, ℕ, ◌≤◌, Bool, true, false, List, [], length, Option, Some, None, slice_get, slice_index, IfSome, Ok}
use Rattle.std.specs.Bool.{MatchBool}
use Rattle.std.specs.Borrow.{GName}
use Rattle.atomic_table.specs.Seated.{TableId}
use Rattle.file_model.specs.Lists.{IndexLists, FileLists}
use Rattle.file_model.specs.Reading.{file_in}
use Rattle.view_outside.specs.Faults.{RoseBy}
use Rattle.view_outside.specs.Files.{Named, HasFile, file_bytes}
use Rattle.view_outside.specs.Taken.{taken_after}
use Rattle.token_table.specs.declared.knowledge.Desk.{Desk}
use Rattle.token_table.specs.Known.{IsDesk}
use Rattle.token_table.specs.Seats.{is_pinned}
use Rattle.token_table.specs.Setups.{Setup}
use Rattle.tier_model.specs.Places.{is_marked}
use Rattle.tier_model.specs.Tiers.{TierState, count, base_marks, IsTier, IsMadeOf}
use Rattle.tier_model.specs.Ties.{IsTied}
use Rattle.tier_model.specs.Counts.{faults_in, lost_in, changes_in, got_bytes, AreCounted}
use Rattle.detail_laws.specs.Needs.{KeepsBase}
use Rattle.cache_chain.specs.ChainStates.{IsFileBody, HasBodies}

-- ---- what is seen

-- what the levels of one run agree on: the table, how many sessions it was made with, what the run began with, and
-- which store it was lent
pub record RunSeen : Type 0 where
  pub table : TableId
  pub sessions : ℕ
  pub setup : Setup
  pub lender : GName

abbrev pub run_of : TableId → ℕ → Setup → GName → RunSeen
run_of table sessions setup lender = record { table = table; sessions = sessions; setup = setup; lender = lender }

-- an owner's seat: whether it has words, its table, its tier's number, and what it knows if it has words
pub record SeatSeen : Type 0 where
  pub has_words : Bool
  pub home : TableId
  pub tier : ℕ
  pub desk : Desk

abbrev pub seat_of : Bool → TableId → ℕ → Desk → SeatSeen
seat_of has_words home tier desk = record { has_words = has_words; home = home; tier = tier; desk = desk }

-- what a level stands on: whether it is a store, whether no turn is made over it, and of a store its files where they
-- are told, the number of the mesh's file, its counts, and which store it is
pub record FloorSeen : Type 0 where
  pub has_store : Bool
  pub is_still : Bool
  pub files : Option (List Named)
  pub file : ℕ
  pub faults : ℕ
  pub taken : ℕ
  pub lender : GName

abbrev pub store_floor : Option (List Named) → ℕ → ℕ → ℕ → GName → FloorSeen
store_floor files file faults taken lender = record {
  has_store = true;
  is_still = false;
  files = files;
  file = file;
  faults = faults;
  taken = taken;
  lender = lender;
}

abbrev storeless : Bool → FloorSeen
storeless still = record {
  has_store = false;
  is_still = still;
  files = None;
  file = 0;
  faults = 0;
  taken = 0;
  lender = 0;
}

-- the tier below is the floor
abbrev pub tier_floor : FloorSeen
tier_floor = storeless false

-- nothing is the floor, since no turn is made
abbrev pub still_floor : FloorSeen
still_floor = storeless true

-- ---- what holds of a level

-- where the bytes are told, the index is that of the file that they are
pub record IsFileOf (index : IndexLists) (bytes : Option (List ℕ)) : Type 0 where
  pub told : IfSome bytes (λ bs. (file : FileLists) × (file_in bs ≡ Ok file) × (file.index ≡ index))

-- the tier has the budget of its number and the run's width
pub record HasBudget (setup : Setup) (k : ℕ) (s : TierState) : Type 0 where
  pub budget : slice_get setup.budgets k ≡ Some s.budget
  pub width : s.width ≡ setup.width
  pub tier : IsTier s

-- mesh and tier are those that the run began with, each body is its file's, and base patches stay where the opening
-- put them
pub record IsOfSetup (setup : Setup) (mesh : IndexLists) (s : TierState) : Type 0 where
  pub same : mesh ≡ setup.mesh
  pub made : IsMadeOf setup.mesh s
  pub bodies : HasBodies (IsFileBody setup.mesh setup.bytes) s
  pub bases : KeepsBase s

-- the top tier has exactly the base pinned, holds what the keeper's epochs say, and an epoch counts the patch's entries
pub record IsTopSeat (setup : Setup) (s : TierState) (desk : Desk) : Type 0 where
  pub many : length desk.epochs ≡ count s
  pub base : s.pinned ≡ base_marks setup.mesh.fields
  pub pins : (p : ℕ) → is_pinned desk p ≡ is_marked s.pinned p
  pub fits : IsDesk desk
  pub tied : IsTied s (slice_index desk.epochs) (is_pinned desk)
  pub counted : AreCounted s (slice_index desk.epochs)

-- another tier has no pins
pub record IsLowerSeat (s : TierState) : Type 0 where
  pub unpinned : (p : ℕ) → is_marked s.pinned p ≡ false

-- over the store of the run nothing is lost, and its counts rose by at least what the journal says
pub record IsOverStore (setup : Setup) (lender : GName) (s : TierState) (floor : FloorSeen) : Type 0 where
  pub there : HasFile floor.files floor.file
  pub bytes : file_bytes floor.files floor.file ≡ setup.bytes
  pub lent : floor.lender ≡ lender
  pub lost : lost_in s.journal ≡ 0
  pub faults : RoseBy (faults_in s.journal) setup.faults floor.faults
  pub taken : taken_after setup.taken (got_bytes s.sizes s.journal) ≤ floor.taken

-- over another tier no fetch fails
pub record IsOverTier (s : TierState) : Type 0 where
  pub faults : faults_in s.journal ≡ 0
  pub changes : changes_in s.journal ≡ 0

-- the journal fits the floor, and where the bytes are told no body was found to have changed
pub record StandsOn (setup : Setup) (lender : GName) (s : TierState) (floor : FloorSeen) : Type 0 where
  pub over : MatchBool floor.has_store (IsOverStore setup lender s floor) (IsOverTier s)
  pub still : floor.is_still ≡ true → s.journal ≡ []
  pub unchanged : IfSome setup.bytes (λ _. changes_in s.journal ≡ 0)

-- tier k of the run with its owner's seat and its floor
pub record IsLevel (run : RunSeen) (k : ℕ) (mesh : IndexLists) (s : TierState) (seat : SeatSeen)
    (floor : FloorSeen) : Type 0 where
  pub right : IsFileOf mesh run.setup.bytes
  pub budget : HasBudget run.setup k s
  pub of_setup : IsOfSetup run.setup mesh s
  pub owned : MatchBool seat.has_words (IsTopSeat run.setup s seat.desk) (IsLowerSeat s)
  pub stands : StandsOn run.setup run.lender s floor

-- the seat is tier k's of the run; a keeper's has no guest, and no session has ended yet
pub record IsSeated (run : RunSeen) (k : ℕ) (seat : SeatSeen) : Type 0 where
  pub home : seat.home ≡ run.table
  pub tier : seat.tier ≡ k
  pub lower : seat.has_words ≡ false → 1 ≤ k
  pub made : seat.has_words ≡ true → seat.desk.made ≡ run.sessions
  pub guest : seat.has_words ≡ true → seat.desk.guest ≡ None
  pub ended : seat.has_words ≡ true → seat.desk.ended ≡ []

-- what the lock of a level keeps: it is one, its seat is in its place, and the tier keeps its journal
pub record KeepsLevel (run : RunSeen) (k : ℕ) (mesh : IndexLists) (s : TierState) (has_journal : Bool) (seat : SeatSeen)
    (floor : FloorSeen) : Type 0 where
  pub level : IsLevel run k mesh s seat floor
  pub seated : IsSeated run k seat
  pub records : has_journal ≡ true

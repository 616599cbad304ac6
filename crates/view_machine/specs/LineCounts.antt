-- What the turns of a line raise the store's counts by.
use Rattle.std.proofs.Common.{◌≡◌, ℕ, ◌≤◌, List, [], ◌∷◌, length, Some, sym, arith}
use Rattle.std.specs.Prelude.{slice_get}
use Rattle.file_model.specs.Lists.{BodyLists}
use Rattle.script_model.specs.declared.orders.Order.{Order}
use Rattle.tier_model.specs.declared.turns.Turn.{Turn}
use Rattle.tier_model.specs.declared.turns.Turn.TheVariants.{Reserve, Evict, Kept, Got, Lost, Fault, Changed, Commit, Idle}
use Rattle.tier_model.specs.Counts.{got_bytes, faults_in}
use Rattle.tier_model.specs.Tiers.{sizes_of}
use Rattle.view_outside.specs.Faults.{RoseBy}
use Rattle.view_outside.specs.Taken.{taken_after, taken_after-zero}
use Rattle.run_model.specs.Worlds.{World}
use Rattle.run_model.specs.States.{State}
use Rattle.run_model.specs.Lines.{Did, Does}
use Rattle.run_model.specs.LineTexts.{IsTextOf}
use Rattle.run_model.specs.RunTexts.{lowest_turns, turns_in}
use Rattle.view_machine.specs.LineTells.{DoesLine}

-- in the turn no fetch failed: the store had no fault, and what it gave broke no rule
abbrev pub IsNoFailure : Turn → Type 0
IsNoFailure (Fault p) = ⊥
IsNoFailure (Changed p fault) = ⊥
IsNoFailure (Reserve p) = Unit {0}
IsNoFailure (Evict p) = Unit {0}
IsNoFailure (Kept p uses) = Unit {0}
IsNoFailure (Got p) = Unit {0}
IsNoFailure (Lost p) = Unit {0}
IsNoFailure (Commit p) = Unit {0}
IsNoFailure Idle = Unit {0}

-- and so it is of each of these turns
abbrev pub HasNoFailure : List (ℕ × Turn) → Type 0
HasNoFailure [] = Unit {0}
HasNoFailure (turn ∷ turns) = IsNoFailure turn.1 × HasNoFailure turns

-- the turn found no bytes that break the rule of bodies
abbrev pub IsNoChange : Turn → Type 0
IsNoChange (Changed p fault) = ⊥
IsNoChange (Fault p) = Unit {0}
IsNoChange (Reserve p) = Unit {0}
IsNoChange (Evict p) = Unit {0}
IsNoChange (Kept p uses) = Unit {0}
IsNoChange (Got p) = Unit {0}
IsNoChange (Lost p) = Unit {0}
IsNoChange (Commit p) = Unit {0}
IsNoChange Idle = Unit {0}

-- nor did one of these turns
abbrev pub HasNoChange : List (ℕ × Turn) → Type 0
HasNoChange [] = Unit {0}
HasNoChange (turn ∷ turns) = IsNoChange turn.1 × HasNoChange turns

-- the bodies are told, and each has a triangle, as the bodies of a patch file do
pub record TellsBodies (w : World) : Type 0 where
  pub bodies : List BodyLists
  pub told : w.bodies ≡ Some bodies
  pub some_triangle : (p : ℕ) (lists : BodyLists) → slice_get bodies p ≡ Some lists → 1 ≤ length lists.corners

-- the count of faults rose by at least those of the lowest tier's turns; where no fetch failed, the count of bytes taken
-- rose by exactly the bodies that came to that tier; and where the bodies are told, none was found to have changed
pub record CountsTurns (w : World) (turns : List (ℕ × Turn)) (faults_before faults_now taken_before taken_now : ℕ) : Type 0 where
  pub faults : RoseBy (faults_in (lowest_turns w turns)) faults_before faults_now
  pub taken : HasNoFailure turns → taken_now ≡ taken_after taken_before (got_bytes (sizes_of w.mesh.index) (lowest_turns w turns))
  pub unchanged : TellsBodies w → HasNoChange turns

-- the line does this in the state, and prints the text; the store's counts rose by the turns that it made
pub record DoesCounted (w : World) (order : Order) (a b : State) (text : List ℕ) (faults_before faults_now taken_before taken_now : ℕ) : Type 0 where
  pub did : Did
  pub does : Does w a order did b
  pub is : IsTextOf did text
  pub counts : CountsTurns w (turns_in did) faults_before faults_now taken_before taken_now

pub counted_line : (w : World) (order : Order) (a b : State) (text : List ℕ) (faults faults_now taken taken_now : ℕ) → DoesCounted w order a b text faults faults_now taken taken_now → DoesLine w order a b text
counted_line w order a b text faults faults_now taken taken_now counted = record { did = counted.did; does = counted.does; is = counted.is }

pub rises_none : (before now : ℕ) → before ≤ now → RoseBy 0 before now
rises_none before now later = omega arith

-- no turn takes anything
pub counts_none : (w : World) (faults faults_now taken : ℕ) → faults ≤ faults_now → CountsTurns w [] faults faults_now taken taken
unfolding lowest_turns got_bytes faults_in
counts_none w faults faults_now taken later = record { faults = rises_none faults faults_now later; taken = λ none. sym (taken_after-zero taken); unchanged = λ tells. tt }

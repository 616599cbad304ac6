-- How a line ends: what it did and printed, or why the run stops.
use Rattle.std.specs.Prelude.{◌≡◌, ℕ, ◌+◌, ◌^◌, ◌<◌, ◌≤◌, List, Option}
use Rattle.std.specs.Option.{option_map_or}
use Rattle.view_outside.specs.Written.{WritesPart}
use Rattle.script_model.specs.declared.orders.Order.{Order}
use Rattle.script_model.specs.Histories.{History}
use Rattle.session_model.specs.Sessions.{SessionState}
use Rattle.view_outside.specs.Faults.{Rose, RoseBy}
use Rattle.view_outside.specs.Streams.{appended}
use Rattle.view_outside.specs.Taken.{taken_after}
use Rattle.run_model.specs.Worlds.{World}
pub use Rattle.run_model.specs.Stages.{viewed_stage, stage_of}
use Rattle.run_model.specs.States.{State}
use Rattle.run_model.specs.Lines.{Did, Does}
use Rattle.run_model.specs.LineTexts.{IsTextOf}
use Rattle.run_model.specs.RunTexts.{turns_in, faults_of, bytes_from_store}
use Rattle.session_seats.specs.Seats.{at_seat}
use Rattle.view_machine.specs.declared.refusals.RunRefusal.{RunRefusal}
use Rattle.view_machine.specs.declared.refusals.RunRefusal.TheVariants.{Memory, WriteFault}
use Rattle.view_machine.specs.Machines.{MachineSeen}
use Rattle.view_machine.specs.OwnStops.{StopsIn}
use Rattle.view_machine.specs.LineCounts.{HasNoFailure, HasNoChange, TellsBodies}

-- ---- how far the sessions have come

abbrev pub stages_in : List (Option SessionState) → History
stages_in sessions i = stage_of (at_seat sessions i)

abbrev pub history_of : {S : Type 0} → MachineSeen S → History
history_of m = stages_in m.seats.sessions

-- how many frames the session of this number printed; where none is open, none
abbrev pub frames_at : List (Option SessionState) → ℕ → ℕ
frames_at sessions i = option_map_or (λ (s : SessionState). s.frames) (at_seat sessions i) 0

-- no session printed 2^63 frames or more
pub record FewFrames {S : Type 0} (m : MachineSeen S) : Type 0 where
  pub few : (i : ℕ) → frames_at m.seats.sessions i < 2 ^ 63

-- no session printed more than one frame more
pub record FramesRise {S : Type 0} (old new : MachineSeen S) : Type 0 where
  pub rise : (i : ℕ) → frames_at new.seats.sessions i ≤ frames_at old.seats.sessions i + 1

-- ---- how a line ends

-- the line did this in the state and its text was written; the store's faults are counted, and the bytes that it
-- gave, and no body that is told was found to have changed
pub record PrintsLine (w : World) (order : Order) (a b : State) (faults_before faults_now taken_before taken_now : ℕ) (before after : Option (List ℕ)) : Type 0 where
  pub did : Did
  pub does : Does w a order did b
  pub text : List ℕ
  pub is : IsTextOf did text
  pub written : after ≡ appended before text
  pub faults : RoseBy (faults_of w did) faults_before faults_now
  pub taken : HasNoFailure (turns_in did) → taken_now ≡ taken_after taken_before (bytes_from_store w did)
  pub unchanged : TellsBodies w → HasNoChange (turns_in did)

-- there was no memory: the line stopped at a beginning of its own steps, and nothing of it was written
pub record StopsMemory (w : World) (order : Order) (a b : State) (before after : Option (List ℕ)) : Type 0 where
  pub stops : StopsIn w a order b
  pub nothing : after ≡ before

-- the sink failed: the line did this, with the store's faults counted, and a proper prefix of its text was written
pub record StopsWriting (w : World) (order : Order) (a b : State) (faults_before faults_now sink_faults sink_faults_now : ℕ) (before after : Option (List ℕ)) : Type 0 where
  pub did : Did
  pub does : Does w a order did b
  pub text : List ℕ
  pub is : IsTextOf did text
  pub part : WritesPart before after text
  pub faults : RoseBy (faults_of w did) faults_before faults_now
  pub unchanged : TellsBodies w → HasNoChange (turns_in did)
  pub rose : Rose sink_faults sink_faults_now

abbrev pub StopsLine : RunRefusal → World → Order → State → State → ℕ → ℕ → ℕ → ℕ → Option (List ℕ) → Option (List ℕ) → Type 0
StopsLine Memory w order a b faults_before faults_now sink_faults sink_faults_now before after = StopsMemory w order a b before after
StopsLine WriteFault w order a b faults_before faults_now sink_faults sink_faults_now before after = StopsWriting w order a b faults_before faults_now sink_faults sink_faults_now before after

-- How a run of lines ends: what they did and printed, or why it stops.
use Rattle.std.specs.Prelude.{◌≡◌, ℕ, List, ◌∷◌, ◌++◌, Option, sum_by}
use Rattle.std.specs.List.{AllByRecursion}
use Rattle.view_outside.specs.Written.{WritesPart}
use Rattle.script_model.specs.declared.orders.Order.{Order}
use Rattle.view_outside.specs.Faults.{Rose, RoseBy}
use Rattle.view_outside.specs.Streams.{appended}
use Rattle.view_outside.specs.Taken.{taken_after}
use Rattle.run_model.specs.Worlds.{World}
use Rattle.run_model.specs.States.{State}
use Rattle.run_model.specs.Lines.{Did, Runs}
use Rattle.run_model.specs.LineTexts.{AreTextsOf}
use Rattle.run_model.specs.RunTexts.{turns_in, faults_of, bytes_from_store}
use Rattle.view_machine.specs.declared.refusals.RunRefusal.{RunRefusal}
use Rattle.view_machine.specs.declared.refusals.RunRefusal.TheVariants.{Memory, WriteFault}
use Rattle.view_machine.specs.LineCounts.{HasNoFailure, HasNoChange, TellsBodies}
use Rattle.view_machine.specs.OwnStops.{StopsIn}

-- in no line a fetch failed
abbrev pub HaveNoFailure : List Did → Type 0
HaveNoFailure dids = AllByRecursion (λ (did : Did). HasNoFailure (turns_in did)) dids

-- no line found that a body has changed
abbrev pub HaveNoChange : List Did → Type 0
HaveNoChange dids = AllByRecursion (λ (did : Did). HasNoChange (turns_in did)) dids

-- the lines did this one after the other, and their text was written; the store's faults are counted, and the bytes that
-- it gave
pub record RanLines (w : World) (orders : List Order) (a b : State) (faults_before faults_now taken_before taken_now : ℕ) (before after : Option (List ℕ)) : Type 0 where
  pub dids : List Did
  pub runs : Runs w a orders dids b
  pub text : List ℕ
  pub texts : AreTextsOf dids text
  pub written : after ≡ appended before text
  pub faults : RoseBy (sum_by (faults_of w) dids) faults_before faults_now
  pub taken : HaveNoFailure dids → taken_now ≡ taken_after taken_before (sum_by (bytes_from_store w) dids)
  pub unchanged : TellsBodies w → HaveNoChange dids

-- there was no memory: a line stopped at a beginning of its own steps. Those before it ran, and exactly their text was
-- written
pub record StopsRunMemory (w : World) (orders : List Order) (a b : State) (faults_before faults_now : ℕ) (before after : Option (List ℕ)) : Type 0 where
  pub done : List Order
  pub stopped : Order
  pub rest : List Order
  pub are : orders ≡ done ++ stopped ∷ rest
  pub dids : List Did
  pub reached : State
  pub runs : Runs w a done dids reached
  pub text : List ℕ
  pub texts : AreTextsOf dids text
  pub written : after ≡ appended before text
  pub faults : RoseBy (sum_by (faults_of w) dids) faults_before faults_now
  pub unchanged : TellsBodies w → HaveNoChange dids
  pub stops : StopsIn w reached stopped b

-- the sink failed in the text of a line: the lines up to and with it ran, and a proper prefix of their text was written
pub record StopsRunWriting (w : World) (orders : List Order) (a b : State) (faults_before faults_now sink_faults sink_faults_now : ℕ) (before after : Option (List ℕ)) : Type 0 where
  pub done : List Order
  pub rest : List Order
  pub are : orders ≡ done ++ rest
  pub dids : List Did
  pub runs : Runs w a done dids b
  pub text : List ℕ
  pub texts : AreTextsOf dids text
  pub part : WritesPart before after text
  pub faults : RoseBy (sum_by (faults_of w) dids) faults_before faults_now
  pub unchanged : TellsBodies w → HaveNoChange dids
  pub rose : Rose sink_faults sink_faults_now

abbrev pub StopsRun : RunRefusal → World → List Order → State → State → ℕ → ℕ → ℕ → ℕ → Option (List ℕ) → Option (List ℕ) → Type 0
StopsRun Memory w orders a b faults_before faults_now sink_faults sink_faults_now before after = StopsRunMemory w orders a b faults_before faults_now before after
StopsRun WriteFault w orders a b faults_before faults_now sink_faults sink_faults_now before after = StopsRunWriting w orders a b faults_before faults_now sink_faults sink_faults_now before after

-- What each status of `play` and `playw` means.
use Rattle.std.specs.Prelude.{◌≡◌, ◌⊎◌, ℕ, ◌+◌, List, ◌++◌, length, Option, IfSome, Err}
use Rattle.file_model.specs.Reading.{file_size}
use Rattle.view_outside.specs.Faults.{Rose}
use Rattle.view_outside.specs.Streams.{appended}
use Rattle.view_outside.specs.Written.{WritesPart}
use Rattle.cache_chain.specs.Refusals.{base_size}
use Rattle.script_model.specs.declared.limits.TheConstants.{MOST_SCRIPT}
use Rattle.script_model.specs.declared.modes.Mode.TheVariants.{Play}
use Rattle.script_model.specs.declared.orders.Line.{Line}
use Rattle.script_model.specs.Scripts.{script_in}
use Rattle.text_model.specs.declared.faults.ScriptFault.{ScriptFault}
use Rattle.text_model.specs.declared.statuses.Status.{Status}
use Rattle.text_model.specs.declared.statuses.Status.TheVariants as statuses
use Rattle.line_reader.specs.Reads.{ReadsThrough}
use Rattle.run_model.specs.Worlds.{World}
use Rattle.viewer_program.specs.Answers.{IsRefusalOf}
use Rattle.viewer_program.specs.Loading.{CanPlay, HasLoaded, FailsToLoad, IsShort, MayChange}
use Rattle.viewer_program.specs.Outside.{OutsideSeen}
use Rattle.viewer_program.specs.Playing.{PlaySeen}
use Rattle.viewer_program.specs.PlayRuns.{IsSetUp, PrintsRun, TakesExactly}
use Rattle.viewer_program.specs.Told.{named_bytes}

-- the counts of a store's faults and of the bytes taken from it, before and after
pub record StoreCounts : Type 0 where
  pub faults : ℕ
  pub faults_now : ℕ
  pub taken : ℕ
  pub taken_now : ℕ

abbrev pub counts_of : ℕ → ℕ → ℕ → ℕ → StoreCounts
counts_of faults faults_now taken taken_now = record {
  faults = faults;
  faults_now = faults_now;
  taken = taken;
  taken_now = taken_now;
}

-- ---- the run

-- all lines ran, and their text was written; the store gave so many bytes before the run
pub record RunsWhole (w : World) (lines : List Line) (first : ℕ) (counts : StoreCounts)
    (before after : Option (List ℕ)) : Type 0 where
  pub text : List ℕ
  pub prints : PrintsRun w lines text counts.faults counts.faults_now
  pub taken : TakesExactly w prints.is.dids first counts.faults counts.faults_now counts.taken counts.taken_now
  pub written : after ≡ appended before text

-- the first lines ran, and of their text this was written
pub record RunsPart (w : World) (lines : List Line) (counts : StoreCounts) (is_written : List ℕ → Type 0) : Type 0 where
  pub done : List Line
  pub left : List Line
  pub parts : lines ≡ done ++ left
  pub text : List ℕ
  pub prints : PrintsRun w done text counts.faults counts.faults_now
  pub written : is_written text

-- what a status says of a run of these lines. Ok: their text was written. WriteFault: a proper prefix of the text of
-- the first of them. Memory: the text of the first of them
abbrev pub RunEnds : World → List Line → ℕ → StoreCounts → Status → Option (List ℕ) → Option (List ℕ) → Type 0
RunEnds w lines first counts statuses.Ok before after = RunsWhole w lines first counts before after
RunEnds w lines first counts statuses.WriteFault before after = RunsPart w lines counts (WritesPart before after)
RunEnds w lines first counts statuses.Memory before after =
    (after ≡ before) ⊎ RunsPart w lines counts (λ text. after ≡ appended before text)
RunEnds w lines first counts status before after = ⊥

-- ---- each status

-- nothing was written, and the source is as it was
pub record IsUntouched (before after : OutsideSeen) : Type 0 where
  pub written : after.sink.written ≡ before.sink.written
  pub unread : after.source ≡ before.source

-- the base was loaded, and then this fault of the script was read, where the source tells it
pub record IsFaulty (play : PlaySeen) (told : Option (List ℕ)) (fault : ScriptFault)
    (before after : OutsideSeen) : Type 0 where
  pub loaded : HasLoaded play told before.store after.store
  pub faulty : IfSome before.source.rest (λ bytes. script_in Play (length play.budgets) bytes ≡ Err fault)
  pub through : ReadsThrough (MOST_SCRIPT + 1) before.source.rest after.source.rest
  pub written : after.sink.written ≡ before.sink.written

-- the base was loaded, and then the source failed
pub record FailsToReadScript (play : PlaySeen) (told : Option (List ℕ)) (before after : OutsideSeen) : Type 0 where
  pub loaded : HasLoaded play told before.store after.store
  pub failed : Rose before.source.faults after.source.faults
  pub written : after.sink.written ≡ before.sink.written

-- the script was read, all its lines ran in the world of the file and the words, and their text was written. The store
-- gave the file and the bodies of the base patches before
pub record PlaysWhole (play : PlaySeen) (told : Option (List ℕ)) (before after : OutsideSeen) : Type 0 where
  pub world : World
  pub lines : List Line
  pub set_up : IsSetUp play told before.source.rest world lines
  pub through : ReadsThrough (MOST_SCRIPT + 1) before.source.rest after.source.rest
  pub text : List ℕ
  pub prints : PrintsRun world lines text before.store.faults after.store.faults
  pub taken : TakesExactly world prints.is.dids (file_size world.mesh.index + base_size world.mesh)
      before.store.faults after.store.faults before.store.taken after.store.taken
  pub written : after.sink.written ≡ appended before.sink.written text

-- the script was read, the first of its lines ran, and of their text this was written
pub record PlaysPart (play : PlaySeen) (told : Option (List ℕ)) (before after : OutsideSeen)
    (is_written : List ℕ → Type 0) : Type 0 where
  pub world : World
  pub lines : List Line
  pub set_up : IsSetUp play told before.source.rest world lines
  pub through : ReadsThrough (MOST_SCRIPT + 1) before.source.rest after.source.rest
  pub done : List Line
  pub left : List Line
  pub parts : lines ≡ done ++ left
  pub text : List ℕ
  pub prints : PrintsRun world done text before.store.faults after.store.faults
  pub written : is_written text

-- the base fits, and nothing was written
pub record IsLoadedAlone (play : PlaySeen) (told : Option (List ℕ)) (before after : OutsideSeen) : Type 0 where
  pub can : CanPlay play told
  pub written : after.sink.written ≡ before.sink.written

-- there was no memory before the script was read, or before a line ran, or in a line behind those whose text was
-- written
abbrev pub LacksMemory : PlaySeen → Option (List ℕ) → OutsideSeen → OutsideSeen → Type 0
LacksMemory play told before after =
    IsUntouched before after ⊎ IsLoadedAlone play told before after
    ⊎ PlaysPart play told before after (λ text. after.sink.written ≡ appended before.sink.written text)

-- the store failed before the script was read, or else the source failed
abbrev pub FailsToRead : PlaySeen → List ℕ → OutsideSeen → OutsideSeen → Type 0
FailsToRead play name before after =
    (IsUntouched before after × FailsToLoad name before.store after.store)
    ⊎ FailsToReadScript play (named_bytes before.store.files name) before after

-- what each status of a play means
abbrev pub PlayEnds : PlaySeen → List ℕ → OutsideSeen → OutsideSeen → Status → Type 0
PlayEnds play name before after statuses.Ok = PlaysWhole play (named_bytes before.store.files name) before after
PlayEnds play name before after statuses.WriteFault =
    PlaysPart play (named_bytes before.store.files name) before after
    (WritesPart before.sink.written after.sink.written)
PlayEnds play name before after statuses.Memory = LacksMemory play (named_bytes before.store.files name) before after
PlayEnds play name before after statuses.ReadFault = FailsToRead play name before after
PlayEnds play name before after (statuses.Refused refusal) =
    IsUntouched before after × IfSome (named_bytes before.store.files name) (λ bytes. IsRefusalOf bytes refusal)
PlayEnds play name before after (statuses.Budget need given) =
    IsUntouched before after × IsShort play (named_bytes before.store.files name) need given
PlayEnds play name before after (statuses.Changed patch fault) =
    IsUntouched before after × MayChange play (named_bytes before.store.files name)
PlayEnds play name before after (statuses.Script fault) =
    IsFaulty play (named_bytes before.store.files name) fault before after
PlayEnds play name before after statuses.Usage = ⊥
PlayEnds play name before after (statuses.Wide patch) = ⊥

-- the store has no such file: nothing was read or written
pub record IsMissing (before after : OutsideSeen) (status : Status) : Type 0 where
  pub read_fault : status ≡ statuses.ReadFault
  pub untouched : IsUntouched before after
  pub taken : after.store.taken ≡ before.store.taken

-- A run of lines, one line more.
use Rattle.std.proofs.Common.{◌≡◌, ℕ, suc, ◌+◌, ◌^◌, ◌<◌, ◌≤◌, true, List, [], ◌∷◌, ◌++◌, drop, drop-cons, get_or, length, Option, None, refl, sym, ap, ap₂, subst, ◌∙◌, append-nil, append_assoc, arith}
use Rattle.std.specs.Prelude.{sum_by}
use Rattle.std.specs.Option.{option_map_or}
use Rattle.std.proofs.Math.Path.{fun_ext}
use Rattle.std.proofs.lemmas.List.{length-append}
use Rattle.std.proofs.lemmas.List.Sums.{sum_by-append, sum_by-cons}
use Rattle.view_outside.specs.Written.{WritesPart-after, appended-after}
use Rattle.script_model.specs.declared.modes.Mode.{Mode}
use Rattle.script_model.specs.declared.orders.Line.{Line}
use Rattle.script_model.specs.declared.orders.Order.{Order}
use Rattle.script_model.specs.Histories.{History, no_sessions, history_after}
use Rattle.script_model.specs.OrderFaults.{allows}
use Rattle.script_model.specs.Scripts.{are_lines_from, AreLines}
use Rattle.script_model.specs.ScriptLaws.{StandsFirst, first_stands}
use Rattle.session_model.specs.Sessions.{SessionState}
use Rattle.view_outside.specs.Faults.{RoseBy, RoseBy-sum, Rose-earlier}
use Rattle.view_outside.specs.Streams.{appended-nil}
use Rattle.view_outside.specs.Taken.{taken_after, taken_after-zero, taken_after-taken_after}
use Rattle.run_model.specs.Worlds.{World}
use Rattle.run_model.specs.States.{State}
use Rattle.run_model.specs.Lines.{Did, Does, Runs, NoLine, OneLine}
use Rattle.run_model.specs.LineTexts.{IsTextOf, AreTextsOf, NoText, OneText}
use Rattle.run_model.specs.RunTexts.{turns_in, faults_of, bytes_from_store, orders_of}
use Rattle.session_seats.specs.Seats.{at_seat}
use Rattle.view_machine.specs.declared.refusals.RunRefusal.{RunRefusal}
use Rattle.view_machine.specs.declared.refusals.RunRefusal.TheVariants.{Memory, WriteFault}
use Rattle.view_machine.specs.Machines.{MachineSeen, world_of, run_state, KeepsPlace}
use Rattle.view_machine.specs.FrameLines.{place_then}
use Rattle.view_machine.specs.LineCounts.{HasNoFailure, HasNoChange, rises_none}
use Rattle.view_machine.specs.LineEnds.{stage_of, history_of, frames_at, FewFrames, FramesRise, PrintsLine, StopsMemory, StopsWriting, StopsLine}
use Rattle.view_machine.specs.RunEnds.{HaveNoFailure, HaveNoChange, RanLines, StopsRunMemory, StopsRunWriting, StopsRun}

-- ---- lists of lines

runs_more : (w : World) (a b c : State) (orders : List Order) (dids : List Did) (order : Order) (did : Did) → Runs w a orders dids b → Does w b order did c → Runs w a (orders ++ order ∷ []) (dids ++ did ∷ []) c
runs_more w _ _ c _ _ order did NoLine does = OneLine does NoLine
runs_more w a b c _ _ order did (OneLine {b = m} {orders = os} {dids = ds} first others) does = OneLine first (runs_more w m b c os ds order did others does)

texts_more : (dids : List Did) (text : List ℕ) (did : Did) (more : List ℕ) → AreTextsOf dids text → IsTextOf did more → AreTextsOf (dids ++ did ∷ []) (text ++ more)
texts_more _ _ did more NoText is = subst (AreTextsOf (did ∷ [])) (append-nil more) (OneText more [] is NoText)
texts_more _ _ did more (OneText {did = d} {dids = ds} text rest first others) is =
    subst (AreTextsOf (d ∷ ds ++ did ∷ [])) (sym (append_assoc text rest more)) (OneText text (rest ++ more) first (texts_more ds rest did more others is))

no_failure_before : (dids : List Did) (did : Did) → HaveNoFailure (dids ++ did ∷ []) → HaveNoFailure dids × HasNoFailure (turns_in did)
no_failure_before [] did none = (tt, none.0)
no_failure_before (d ∷ ds) did none = let others = no_failure_before ds did none.1 in ((none.0, others.0), others.1)

no_change_more : (dids : List Did) (did : Did) → HaveNoChange dids → HasNoChange (turns_in did) → HaveNoChange (dids ++ did ∷ [])
no_change_more [] did before here = (here, tt)
no_change_more (d ∷ ds) did before here = (before.0, no_change_more ds did before.1 here)

sum_more : (f : Did → ℕ) (dids : List Did) (did : Did) → sum_by f (dids ++ did ∷ []) ≡ sum_by f dids + f did
sum_more f dids did = let both = sum_by-append f dids (did ∷ []) in let one = sum_by-cons f did [] in omega arith

orders_more : (done : List Line) (line : Line) → orders_of (done ++ line ∷ []) ≡ orders_of done ++ line.order ∷ []
orders_more [] line = refl
orders_more (l ∷ ls) line = ap (λ (orders : List Order). l.order ∷ orders) (orders_more ls line)

orders_split : (done rest : List Line) (line : Line) → orders_of (done ++ line ∷ rest) ≡ orders_of done ++ line.order ∷ orders_of rest
orders_split [] rest line = refl
orders_split (l ∷ ls) rest line = ap (λ (orders : List Order). l.order ∷ orders) (orders_split ls rest line)

one_behind : (done : List Line) (line : Line) (rest : List Line) → done ++ line ∷ rest ≡ (done ++ line ∷ []) ++ rest
one_behind done line rest = sym (append_assoc done (line ∷ []) rest)

risen_later : (n f g h : ℕ) → RoseBy n f g → g ≤ h → RoseBy n f h
risen_later n f g h rose later = omega arith

-- ---- what a run did

pub ran_none : (w : World) (a : State) (faults taken : ℕ) (told : Option (List ℕ)) → RanLines w [] a a faults faults taken taken told told
ran_none w a faults taken told = record {
  dids = [];
  runs = NoLine;
  text = [];
  texts = NoText;
  written = sym (appended-nil told);
  faults = rises_none faults faults (omega arith);
  taken = λ none. sym (taken_after-zero taken);
  unchanged = λ tells. tt;
}

faults_more : (w : World) (dids : List Did) (did : Did) (f g h : ℕ) → RoseBy (sum_by (faults_of w) dids) f g → RoseBy (faults_of w did) g h → RoseBy (sum_by (faults_of w) (dids ++ did ∷ [])) f h
faults_more w dids did f g h first second =
    subst (λ (n : ℕ). RoseBy n f h) (sym (sum_more (faults_of w) dids did)) (RoseBy-sum (sum_by (faults_of w) dids) (faults_of w did) f g h first second)

ran_more : (w : World) (orders : List Order) (order : Order) (a b c : State) (f g h t u v : ℕ) (before between after : Option (List ℕ)) → RanLines w orders a b f g t u before between → PrintsLine w order b c g h u v between after → RanLines w (orders ++ order ∷ []) a c f h t v before after
ran_more w orders order a b c f g h t u v before between after ran prints = record {
  dids = ran.dids ++ prints.did ∷ [];
  runs = runs_more w a b c orders ran.dids order prints.did ran.runs prints.does;
  text = ran.text ++ prints.text;
  texts = texts_more ran.dids ran.text prints.did prints.text ran.texts prints.is;
  written = appended-after before between after ran.text prints.text ran.written prints.written;
  faults = faults_more w ran.dids prints.did f g h ran.faults prints.faults;
  unchanged = λ tells. no_change_more ran.dids prints.did (ran.unchanged tells) (prints.unchanged tells);
  taken = λ none.
      let parts = no_failure_before ran.dids prints.did none in
      prints.taken parts.1
      ∙ ap (λ (n : ℕ). taken_after n (bytes_from_store w prints.did)) (ran.taken parts.0)
      ∙ taken_after-taken_after t (sum_by (bytes_from_store w) ran.dids) (bytes_from_store w prints.did)
      ∙ ap (taken_after t) (sym (sum_more (bytes_from_store w) ran.dids prints.did));
}

-- ---- how far a run has come

-- of the lines these are done, and the rest may follow; the board's version and the sessions' frames have risen by at most
-- as much as there are lines done, which is at most the number of the last of them
pub record HasPlayed {S : Type 0} (mode : Mode) (old now : MachineSeen S) (done rest : List Line) (faults_before faults_now taken_before taken_now : ℕ) (before after : Option (List ℕ)) : Type 0 where
  pub ran : RanLines (world_of old) (orders_of done) (run_state old) (run_state now) faults_before faults_now taken_before taken_now before after
  pub place : KeepsPlace old now
  pub above : ℕ
  pub few : length done ≤ above
  pub rules : are_lines_from mode (length now.chain.tiers) (history_of now) above rest ≡ true
  pub version : now.board.version ≤ old.board.version + length done
  pub frames : (i : ℕ) → frames_at now.seats.sessions i ≤ length done

module _ {S : Type 0} (mode : Mode) (old mid : MachineSeen S) (done : List Line) (line : Line) (rest : List Line) (f g t u : ℕ) (before between : Option (List ℕ)) (played : HasPlayed mode old mid done (line ∷ rest) f g t u before between) where
  stands : StandsFirst mode (length mid.chain.tiers) (history_of mid) played.above line rest
  stands = first_stands mode (length mid.chain.tiers) (history_of mid) played.above line rest played.rules

  -- the next line is allowed
  pub next_allowed : allows (length mid.chain.tiers) (history_of mid) line.order ≡ true
  next_allowed = stands.allowed

  pub next_few : old.board.version < 2 ^ 62 → line.number < 2 ^ 32 → mid.board.version < 2 ^ 63
  next_few low number = let ascends = stands.ascends in let few = played.few in let version = played.version in omega arith

  pub next_frames : line.number < 2 ^ 32 → FewFrames mid
  next_frames number = record { few = λ i. let ascends = stands.ascends in let few = played.few in let frames = played.frames i in omega arith }

  module _ (new : MachineSeen S) (h v : ℕ) (after : Option (List ℕ)) (prints : PrintsLine (world_of mid) line.order (run_state mid) (run_state new) g h u v between after) (place : KeepsPlace mid new) where
    pub played_more : new.board.version ≤ mid.board.version + 1 → FramesRise mid new → history_of new ≡ history_after (history_of mid) line.order → length new.chain.tiers ≡ length mid.chain.tiers → HasPlayed mode old new (done ++ line ∷ []) rest f h t v before after
    played_more rises frames history tiers =
        let many : length (done ++ line ∷ []) ≡ length done + 1 = length-append done (line ∷ []) in
        let few = played.few in
        let ascends = stands.ascends in
        let version = played.version in
        record {
          ran =
              subst (λ (orders : List Order). RanLines (world_of old) orders (run_state old) (run_state new) f h t v before after) (sym (orders_more done line))
              (ran_more (world_of old) (orders_of done) line.order (run_state old) (run_state mid) (run_state new) f g h t u v before between after played.ran
              (subst (λ (w : World). PrintsLine w line.order (run_state mid) (run_state new) g h u v between after) played.place.world prints));
          place = place_then old mid new played.place place;
          above = line.number;
          few = omega arith;
          rules =
              subst (λ (n : ℕ). are_lines_from mode n (history_of new) line.number rest ≡ true) (sym tiers)
              (subst (λ (hist : History). are_lines_from mode (length mid.chain.tiers) hist line.number rest ≡ true) (sym history) stands.others);
          version = omega arith;
          frames = λ i. let rise = frames.rise i in let had = played.frames i in omega arith;
        }

  -- the run stops in the next line
  pub stops_memory : (new : MachineSeen S) (after : Option (List ℕ)) (h : ℕ) → g ≤ h → StopsMemory (world_of mid) line.order (run_state mid) (run_state new) between after → StopsRunMemory (world_of old) (orders_of (done ++ line ∷ rest)) (run_state old) (run_state new) f h before after
  stops_memory new after h later stop =
      let here : StopsMemory (world_of old) line.order (run_state mid) (run_state new) between after = subst (λ (w : World). StopsMemory w line.order (run_state mid) (run_state new) between after) played.place.world stop in
      record {
        done = orders_of done;
        stopped = line.order;
        rest = orders_of rest;
        are = orders_split done rest line;
        dids = played.ran.dids;
        reached = run_state mid;
        runs = played.ran.runs;
        text = played.ran.text;
        texts = played.ran.texts;
        written = here.nothing ∙ played.ran.written;
        faults = risen_later (sum_by (faults_of (world_of old)) played.ran.dids) f g h played.ran.faults later;
        unchanged = played.ran.unchanged;
        stops = here.stops;
      }

  pub stops_writing : (new : MachineSeen S) (after : Option (List ℕ)) (h sink_before sink_between sink_now : ℕ) → sink_before ≤ sink_between → StopsWriting (world_of mid) line.order (run_state mid) (run_state new) g h sink_between sink_now between after
      → StopsRunWriting (world_of old) (orders_of (done ++ line ∷ rest)) (run_state old) (run_state new) f h sink_before sink_now before after
  stops_writing new after h sink_before sink_between sink_now later stop =
      let w = world_of old in
      let here : StopsWriting w line.order (run_state mid) (run_state new) g h sink_between sink_now between after = subst (λ (v : World). StopsWriting v line.order (run_state mid) (run_state new) g h sink_between sink_now between after) played.place.world stop in
      let ran = played.ran in
      record {
        done = orders_of done ++ line.order ∷ [];
        rest = orders_of rest;
        are = orders_split done rest line ∙ sym (append_assoc (orders_of done) (line.order ∷ []) (orders_of rest));
        dids = ran.dids ++ here.did ∷ [];
        runs = runs_more w (run_state old) (run_state mid) (run_state new) (orders_of done) ran.dids line.order here.did ran.runs here.does;
        text = ran.text ++ here.text;
        texts = texts_more ran.dids ran.text here.did here.text ran.texts here.is;
        part = WritesPart-after before between after ran.text here.text ran.written here.part;
        faults = faults_more w ran.dids here.did f g h ran.faults here.faults;
        unchanged = λ tells. no_change_more ran.dids here.did (ran.unchanged tells) (here.unchanged tells);
        rose = Rose-earlier sink_before sink_between sink_now later here.rose;
      }

-- ---- by the number of lines that are done

-- the first k lines were played
pub record PlaysTo {S : Type 0} (old now : MachineSeen S) (lines : List Line) (k : ℕ) (faults_before faults_now taken_before taken_now : ℕ) (before after : Option (List ℕ)) : Type 0 where
  pub mode : Mode
  pub done : List Line
  pub split : lines ≡ done ++ drop k lines
  pub played : HasPlayed mode old now done (drop k lines) faults_before faults_now taken_before taken_now before after

pub plays_none : {S : Type 0} (mode : Mode) (m : MachineSeen S) (lines : List Line) (faults taken : ℕ) (told : Option (List ℕ)) → ((i : ℕ) → at_seat m.seats.sessions i ≡ None) → AreLines mode (length m.chain.tiers) lines → PlaysTo m m lines 0 faults faults taken taken told told
plays_none mode m lines faults taken told closed rules = record {
  mode = mode;
  done = [];
  split = refl;
  played = record {
    ran = ran_none (world_of m) (run_state m) faults taken told;
    place = record { world = refl; mesh = refl; file = refl; bytes = refl; lender = refl };
    above = 0;
    few = omega arith;
    rules =
        let none : history_of m ≡ no_sessions = fun_ext (λ (i : ℕ). ap stage_of (closed i)) in
        subst (λ (hist : History). are_lines_from mode (length m.chain.tiers) hist 0 lines ≡ true) (sym none) rules;
    version = omega arith;
    frames = λ i. let none : frames_at m.seats.sessions i ≡ 0 = ap (λ (s : Option SessionState). option_map_or (λ (t : SessionState). t.frames) s 0) (closed i) in omega arith;
  };
}

-- the next line
pub next_line : (lines : List Line) (k : ℕ) (line : Line) → k < length lines → line ≡ get_or lines k line → drop k lines ≡ line ∷ drop (k + 1) lines
next_line lines k line within is =
    let one : suc k ≡ k + 1 = omega arith in
    drop-cons lines k line within ∙ ap₂ (λ (l : Line) (n : ℕ). l ∷ drop n lines) (sym is) one

module _ {S : Type 0} (old mid : MachineSeen S) (lines : List Line) (k : ℕ) (line : Line) (f g t u : ℕ) (before between : Option (List ℕ)) (plays : PlaysTo old mid lines k f g t u before between) (next : drop k lines ≡ line ∷ drop (k + 1) lines) where
  abbrev rest : List Line
  rest = drop (k + 1) lines

  here : HasPlayed plays.mode old mid plays.done (line ∷ rest) f g t u before between
  here = subst (λ (ls : List Line). HasPlayed plays.mode old mid plays.done ls f g t u before between) next plays.played

  lines_are : lines ≡ plays.done ++ line ∷ rest
  lines_are = plays.split ∙ ap (λ (ls : List Line). plays.done ++ ls) next

  pub line_allowed : allows (length mid.chain.tiers) (history_of mid) line.order ≡ true
  line_allowed = next_allowed plays.mode old mid plays.done line rest f g t u before between here

  pub line_few : old.board.version < 2 ^ 62 → line.number < 2 ^ 32 → mid.board.version < 2 ^ 63
  line_few = next_few plays.mode old mid plays.done line rest f g t u before between here

  pub line_frames : line.number < 2 ^ 32 → FewFrames mid
  line_frames = next_frames plays.mode old mid plays.done line rest f g t u before between here

  pub plays_on : (new : MachineSeen S) (h v : ℕ) (after : Option (List ℕ)) → PrintsLine (world_of mid) line.order (run_state mid) (run_state new) g h u v between after → KeepsPlace mid new → new.board.version ≤ mid.board.version + 1 → FramesRise mid new
      → history_of new ≡ history_after (history_of mid) line.order → length new.chain.tiers ≡ length mid.chain.tiers → PlaysTo old new lines (k + 1) f h t v before after
  plays_on new h v after prints place version frames history tiers = record {
    mode = plays.mode;
    done = plays.done ++ line ∷ [];
    split = lines_are ∙ one_behind plays.done line rest;
    played = played_more plays.mode old mid plays.done line rest f g t u before between here new h v after prints place version frames history tiers;
  }

  pub run_stops : (refusal : RunRefusal) (new : MachineSeen S) (h : ℕ) (after : Option (List ℕ)) (sink_before sink_between sink_now : ℕ) → g ≤ h → sink_before ≤ sink_between
      → StopsLine refusal (world_of mid) line.order (run_state mid) (run_state new) g h sink_between sink_now between after → StopsRun refusal (world_of old) (orders_of lines) (run_state old) (run_state new) f h sink_before sink_now before after
  run_stops Memory new h after sink_before sink_between sink_now later sink_later stop =
      subst (λ (ls : List Line). StopsRunMemory (world_of old) (orders_of ls) (run_state old) (run_state new) f h before after) (sym lines_are)
      (stops_memory plays.mode old mid plays.done line rest f g t u before between here new after h later stop)
  run_stops WriteFault new h after sink_before sink_between sink_now later sink_later stop =
      subst (λ (ls : List Line). StopsRunWriting (world_of old) (orders_of ls) (run_state old) (run_state new) f h sink_before sink_now before after) (sym lines_are)
      (stops_writing plays.mode old mid plays.done line rest f g t u before between here new after h sink_before sink_between sink_now sink_later stop)

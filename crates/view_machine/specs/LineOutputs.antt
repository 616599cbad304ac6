-- What a line gives, from what the calls of its order promise.
use Rattle.std.proofs.Common.{◌≡◌, ℕ, ◌+◌, ◌≤◌, Bool, true, false, List, [], length, Option, Some, None, Result, Ok, Err, IfOk, OnErr, refl, sym, ap, subst, ◌∙◌, arith}
use Rattle.std.specs.Prelude.{OnOk, IfErr}
use Rattle.std.specs.Result.{IsErrAnd}
use Rattle.std.proofs.lemmas.List.{length-map}
use Rattle.std.proofs.lemmas.Result.{on_ok_weaker, on_err_weaker}
use Rattle.frame_writer.proofs.LineLemmas.{on_err}
use Rattle.round_model.specs.Views.{ViewSeen}
use Rattle.script_model.specs.declared.orders.Order.{Order}
use Rattle.script_model.specs.declared.orders.Order.TheVariants as orders
use Rattle.script_model.specs.Histories.{history_after}
use Rattle.token_words.specs.Changes.{SetAt, Stays}
use Rattle.tier_model.specs.Tiers.{TierState}
use Rattle.view_outside.specs.Faults.{Rose}
use Rattle.view_outside.specs.Files.{Named}
use Rattle.view_outside.specs.Streams.{appended}
use Rattle.view_outside.specs.Written.{WritesPart}
use Rattle.wish_board.specs.Boards.{BoardSeen}
use Rattle.cache_chain.specs.ChainStates.{ChainSeen}
use Rattle.run_model.specs.Worlds.{World}
use Rattle.run_model.specs.States.{State}
use Rattle.run_model.specs.Lines.{Did, Does, DoesOpen, DoesView, DoesStep, DoesFrame, DoesFree, DoesClose, DoesTurn, DoesSettle, DoesStatus}
use Rattle.run_model.specs.RunTexts.{turns_in}
use Rattle.session_seats.specs.Seats.{SeatsSeen, seat_told, IsOpen}
use Rattle.session_model.specs.Told.{SessionTold, session_told, just_opened, told_view, one_frame_more}
use Rattle.view_machine.specs.declared.refusals.RunRefusal.{RunRefusal}
use Rattle.view_machine.specs.declared.refusals.RunRefusal.TheVariants.{Memory, WriteFault}
use Rattle.view_machine.specs.Machines.{MachineSeen, world_of, run_state, KeepsPlace}
use Rattle.view_machine.specs.OwnStops.{StopsIn, AtStart}
use Rattle.view_machine.specs.LineTells.{DoesLine}
use Rattle.view_machine.specs.LineCounts.{CountsTurns, DoesCounted, counts_none}
use Rattle.view_machine.specs.LineEnds.{stages_in, history_of, frames_at, FramesRise, PrintsLine, StopsWriting}
use Rattle.view_machine.specs.TurnClauses.{if_ok_then}
use Rattle.view_machine.specs.LineHistories.{told_frames, told_is, frames_open, stage_again, stages_set, frames_set, stages_stay, frames_stay}

-- what stays wherever a line ends, and what rises at most by one
pub record LineKeeps {S : Type 0} (old new : MachineSeen S) (files_old files_new : Option (List Named)) (faults_old faults_new : ℕ) : Type 0 where
  pub place : KeepsPlace old new
  pub files : files_new ≡ files_old
  pub later : faults_old ≤ faults_new
  pub version : new.board.version ≤ old.board.version + 1
  pub frames : FramesRise old new
  pub tiers : length new.chain.tiers ≡ length old.chain.tiers

-- what is given of a line that ended with this result: its text with the store's counts, or where it stopped
pub record LineGives {S T E : Type 0} (order : Order) (old new : MachineSeen S) (files files_now : Option (List Named)) (faults faults_now taken taken_now : ℕ) (result : Result T E) (text : T → List ℕ) : Type 0 where
  pub line : IfOk result (λ x. DoesCounted (world_of old) order (run_state old) (run_state new) (text x) faults faults_now taken taken_now)
  pub none : OnErr result (StopsIn (world_of old) (run_state old) order (run_state new))
  pub refused : (session : ℕ) (view : ViewSeen) → order ≡ orders.View session view → OnErr result (new ≡ old)
  pub history : OnOk result (history_of new ≡ history_after (history_of old) order)
  pub keeps : LineKeeps old new files files_now faults faults_now

-- ---- lines without turns

abbrev is_turning : Order → Bool
is_turning (orders.Turn k) = true
is_turning orders.Settle = true
is_turning (orders.Open i) = false
is_turning (orders.View i view) = false
is_turning (orders.Step i) = false
is_turning (orders.Frame i) = false
is_turning (orders.Free i) = false
is_turning (orders.Close i) = false
is_turning orders.Status = false

no_turns : (w : World) (a b : State) (order : Order) (did : Did) → is_turning order ≡ false → Does w a order did b → turns_in did ≡ []
no_turns w a b _ _ none (DoesOpen i number closed) = refl
no_turns w a b _ _ none (DoesView i s view at) = refl
no_turns w a b _ _ none (DoesStep i s view at viewed) = refl
no_turns w a b _ _ none (DoesFrame i s t view tries done at viewed finishes) = refl
no_turns w a b _ _ none (DoesFree i unlocks s t at frees) = refl
no_turns w a b _ _ none (DoesClose i unlocks s t at frees) = refl
no_turns w a b _ _ none (DoesTurn k answer turn) = absurd (cc)
no_turns w a b _ _ none (DoesSettle settles) = absurd (cc)
no_turns w a b _ _ none DoesStatus = refl

counted : (w : World) (order : Order) (a b : State) (text : List ℕ) (faults faults_now taken taken_now : ℕ) → is_turning order ≡ false → faults ≤ faults_now → taken_now ≡ taken → DoesLine w order a b text → DoesCounted w order a b text faults faults_now taken taken_now
counted w order a b text faults faults_now taken taken_now none later same line = record {
  did = line.did;
  does = line.does;
  is = line.is;
  counts =
      subst (λ turns. CountsTurns w turns faults faults_now taken taken_now) (sym (no_turns w a b order line.did none line.does))
      (subst (λ (n : ℕ). CountsTurns w [] faults faults_now taken n) (sym same) (counts_none w faults faults_now taken later));
}

-- ---- results

pub on_ok : {T E P : Type 0} (result : Result T E) → P → OnOk result P
on_ok (Ok x) p = p
on_ok (Err e) p = tt

pub either_way : {T E P Q R : Type 0} (result : Result T E) → (P → R) → (Q → R) → OnOk result P → OnErr result Q → R
either_way (Ok x) first second p q = first p
either_way (Err e) first second p q = second q

-- ---- a machine that is as it was

module _ {S : Type 0} (old new : MachineSeen S) where
  pub frames_same : new.seats ≡ old.seats → FramesRise old new
  frames_same same = record {
    rise = λ i. let is : frames_at new.seats.sessions i ≡ frames_at old.seats.sessions i = ap (λ (seats : SeatsSeen). frames_at seats.sessions i) same in omega (arith, is);
  }

  pub version_same : new.board ≡ old.board → new.board.version ≤ old.board.version + 1
  version_same same = let is : new.board.version ≡ old.board.version = ap (λ (board : BoardSeen). board.version) same in omega (arith, is)

  pub history_same : new.seats ≡ old.seats → history_of new ≡ history_of old
  history_same same = ap (λ (seats : SeatsSeen). stages_in seats.sessions) same

  stops_there : (order : Order) → new ≡ old → StopsIn (world_of old) (run_state old) order (run_state new)
  stops_there order same = subst (λ (m : MachineSeen S). StopsIn (world_of old) (run_state old) order (run_state m)) (sym same) AtStart

  pub many_tiers : KeepsPlace old new → length new.chain.tiers ≡ length old.chain.tiers
  many_tiers place =
      sym (length-map new.chain.tiers (λ (t : TierState). t.budget)) ∙ ap (λ (w : World). length w.budgets) place.world ∙ length-map old.chain.tiers (λ (t : TierState). t.budget)

-- ---- each order

module _ {S T E : Type 0} (files : S → Option (List Named)) (faults taken : S → ℕ) (old new : MachineSeen S) (result : Result T E) (text : T → List ℕ) where
  abbrev Gives : Order → Type 0
  Gives order = LineGives order old new (files old.chain.store) (files new.chain.store) (faults old.chain.store) (faults new.chain.store) (taken old.chain.store) (taken new.chain.store) result text

  pub gives_as : (order same : Order) → order ≡ same → Gives same → Gives order
  gives_as order same is gives = subst Gives (sym is) gives

  abbrev Line : Order → Type 0
  Line order = IfOk result (λ x. DoesLine (world_of old) order (run_state old) (run_state new) (text x))

  abbrev Stopped : Order → Type 0
  Stopped order = OnErr result (StopsIn (world_of old) (run_state old) order (run_state new))

  abbrev pub Sets : ℕ → Option SessionTold → Type 0
  Sets i value = SetAt (seat_told old.seats.sessions) i value (seat_told new.seats.sessions)

  pub rises : (i : ℕ) (value : Option SessionTold) → Sets i value → told_frames value ≤ frames_at old.seats.sessions i + 1 → FramesRise old new
  rises i value sets most = record { rise = frames_set old.seats.sessions new.seats.sessions i value sets most }

  pub rises_still : Stays (seat_told old.seats.sessions) (seat_told new.seats.sessions) → FramesRise old new
  rises_still stays = record { rise = frames_stay old.seats.sessions new.seats.sessions stays }

  seat_line : (order : Order) → is_turning order ≡ false → new.chain ≡ old.chain → Line order → IfOk result (λ x. DoesCounted (world_of old) order (run_state old) (run_state new) (text x) (faults old.chain.store) (faults new.chain.store) (taken old.chain.store) (taken new.chain.store))
  seat_line order none same line =
      let is : faults new.chain.store ≡ faults old.chain.store = ap (λ (c : ChainSeen S). faults c.store) same in
      if_ok_then result (λ x does. counted (world_of old) order (run_state old) (run_state new) (text x) (faults old.chain.store) (faults new.chain.store) (taken old.chain.store) (taken new.chain.store) none (omega (arith, is)) (ap (λ (c : ChainSeen S). taken c.store) same) does) line

  pub seat_keeps : KeepsPlace old new → new.chain ≡ old.chain → new.board.version ≤ old.board.version + 1 → FramesRise old new → LineKeeps old new (files old.chain.store) (files new.chain.store) (faults old.chain.store) (faults new.chain.store)
  seat_keeps place same version frames =
      let is : faults new.chain.store ≡ faults old.chain.store = ap (λ (c : ChainSeen S). faults c.store) same in
      record {
        place = place;
        files = ap (λ (c : ChainSeen S). files c.store) same;
        later = omega (arith, is);
        version = version;
        frames = frames;
        tiers = ap (λ (c : ChainSeen S). length c.tiers) same;
      }

  pub open_gives : (i : ℕ) → Line (orders.Open i) → OnErr result (new ≡ old) → OnOk result (Sets i (Some just_opened)) → KeepsPlace old new → new.board ≡ old.board → new.chain ≡ old.chain → Gives (orders.Open i)
  unfolding history_after
  open_gives i line none told place board chain = record {
    line = seat_line (orders.Open i) refl chain line;
    none = on_err_weaker result (stops_there old new (orders.Open i)) none;
    refused = λ session view is. absurd (cc);
    history = on_ok_weaker result (stages_set old.seats.sessions new.seats.sessions i (Some just_opened)) told;
    keeps =
        seat_keeps place chain (version_same old new board)
        (either_way result (λ sets. rises i (Some just_opened) sets (omega arith)) (λ same. frames_same old new (ap (λ (m : MachineSeen S). m.seats) same)) told none);
  }

  pub view_gives : (i : ℕ) (view : ViewSeen) → IsOpen old.seats.sessions i → Line (orders.View i view) → OnErr result (new ≡ old)
      → OnOk result ((told : SessionTold) → seat_told old.seats.sessions i ≡ Some told → Sets i (Some (told_view told view)))
      → new.board.version ≤ old.board.version + 1 → KeepsPlace old new → new.chain ≡ old.chain → Gives (orders.View i view)
  unfolding history_after
  view_gives i view there line none told version place chain =
      let s = there.session in
      let value : Option SessionTold = Some (told_view (session_told s) view) in
      let tells = told_is old.seats.sessions i s there.at in
      let sets : OnOk result (Sets i value) = on_ok_weaker result (λ given. given (session_told s) tells) told in
      let most = frames_open old.seats.sessions i s there.at in
      record {
        line = seat_line (orders.View i view) refl chain line;
        none = on_err_weaker result (stops_there old new (orders.View i view)) none;
        refused = λ session other is. none;
        history = on_ok_weaker result (stages_set old.seats.sessions new.seats.sessions i value) sets;
        keeps =
            seat_keeps place chain version
            (either_way result (λ given. rises i value given (omega (arith, most))) (λ same. frames_same old new (ap (λ (m : MachineSeen S). m.seats) same)) sets none);
      }

  pub step_gives : (i : ℕ) → Line (orders.Step i) → Stopped (orders.Step i) → Stays (seat_told old.seats.sessions) (seat_told new.seats.sessions) → KeepsPlace old new → new.board ≡ old.board → new.chain ≡ old.chain → Gives (orders.Step i)
  unfolding history_after
  step_gives i line none stays place board chain = record {
    line = seat_line (orders.Step i) refl chain line;
    none = none;
    refused = λ session view is. absurd (cc);
    history = on_ok result (stages_stay old.seats.sessions new.seats.sessions stays);
    keeps = seat_keeps place chain (version_same old new board) (rises_still stays);
  }

  pub frame_gives : (i : ℕ) → IsOpen old.seats.sessions i → Line (orders.Frame i) → Stopped (orders.Frame i)
      → OnOk result ((told : SessionTold) → seat_told old.seats.sessions i ≡ Some told → Sets i (Some (one_frame_more told)))
      → OnErr result (Stays (seat_told old.seats.sessions) (seat_told new.seats.sessions)) → KeepsPlace old new → new.board ≡ old.board → new.chain ≡ old.chain → Gives (orders.Frame i)
  unfolding history_after
  frame_gives i there line none told stays place board chain =
      let s = there.session in
      let value : Option SessionTold = Some (one_frame_more (session_told s)) in
      let tells = told_is old.seats.sessions i s there.at in
      let sets : OnOk result (Sets i value) = on_ok_weaker result (λ given. given (session_told s) tells) told in
      let most = frames_open old.seats.sessions i s there.at in
      record {
        line = seat_line (orders.Frame i) refl chain line;
        none = none;
        refused = λ session view is. absurd (cc);
        history = on_ok_weaker result (λ given. stages_set old.seats.sessions new.seats.sessions i value given ∙ stage_again old.seats.sessions i s there.at) sets;
        keeps = seat_keeps place chain (version_same old new board) (either_way result (λ given. rises i value given (omega (arith, most))) rises_still sets stays);
      }

  pub free_gives : (i : ℕ) → Line (orders.Free i) → Stopped (orders.Free i) → Stays (seat_told old.seats.sessions) (seat_told new.seats.sessions) → KeepsPlace old new → new.board ≡ old.board → new.chain ≡ old.chain → Gives (orders.Free i)
  unfolding history_after
  free_gives i line none stays place board chain = record {
    line = seat_line (orders.Free i) refl chain line;
    none = none;
    refused = λ session view is. absurd (cc);
    history = on_ok result (stages_stay old.seats.sessions new.seats.sessions stays);
    keeps = seat_keeps place chain (version_same old new board) (rises_still stays);
  }

  pub close_gives : (i : ℕ) → Line (orders.Close i) → Stopped (orders.Close i) → Sets i None → new.board.version ≤ old.board.version + 1 → KeepsPlace old new → new.chain ≡ old.chain → Gives (orders.Close i)
  unfolding history_after
  close_gives i line none sets version place chain = record {
    line = seat_line (orders.Close i) refl chain line;
    none = none;
    refused = λ session view is. absurd (cc);
    history = on_ok result (stages_set old.seats.sessions new.seats.sessions i None sets);
    keeps = seat_keeps place chain version (rises i None sets (omega arith));
  }

  abbrev Counted : Order → Type 0
  Counted order = IfOk result (λ x. DoesCounted (world_of old) order (run_state old) (run_state new) (text x) (faults old.chain.store) (faults new.chain.store) (taken old.chain.store) (taken new.chain.store))

  pub tier_keeps : KeepsPlace old new → new.seats ≡ old.seats → new.board ≡ old.board → files new.chain.store ≡ files old.chain.store → faults old.chain.store ≤ faults new.chain.store → LineKeeps old new (files old.chain.store) (files new.chain.store) (faults old.chain.store) (faults new.chain.store)
  tier_keeps place seats board same later = record {
    place = place;
    files = same;
    later = later;
    version = version_same old new board;
    frames = frames_same old new seats;
    tiers = many_tiers old new place;
  }

  pub turn_gives : (k : ℕ) → Counted (orders.Turn k) → Stopped (orders.Turn k) → KeepsPlace old new → new.seats ≡ old.seats → new.board ≡ old.board → files new.chain.store ≡ files old.chain.store → faults old.chain.store ≤ faults new.chain.store → Gives (orders.Turn k)
  unfolding history_after
  turn_gives k line none place seats board same later = record {
    line = line;
    none = none;
    refused = λ session view is. absurd (cc);
    history = on_ok result (history_same old new seats);
    keeps = tier_keeps place seats board same later;
  }

  pub settle_gives : Counted orders.Settle → Stopped orders.Settle → KeepsPlace old new → new.seats ≡ old.seats → new.board ≡ old.board → files new.chain.store ≡ files old.chain.store → faults old.chain.store ≤ faults new.chain.store → Gives orders.Settle
  unfolding history_after
  settle_gives line none place seats board same later = record {
    line = line;
    none = none;
    refused = λ session view is. absurd (cc);
    history = on_ok result (history_same old new seats);
    keeps = tier_keeps place seats board same later;
  }

-- what the tiers hold is told, and nothing changes
pub status_gives : {S T E : Type 0} (files : S → Option (List Named)) (faults taken : S → ℕ) (m : MachineSeen S) (result : Result T E) (text : T → List ℕ) → IfOk result (λ x. DoesLine (world_of m) orders.Status (run_state m) (run_state m) (text x)) → Gives files faults taken m m result text orders.Status
unfolding history_after
status_gives files faults taken m result text line = record {
  line = seat_line files faults taken m m result text orders.Status refl refl line;
  none = on_err result AtStart;
  refused = λ session view is. absurd (cc);
  history = on_ok result refl;
  keeps = tier_keeps files faults taken m m result text (record { world = refl; mesh = refl; file = refl; bytes = refl; lender = refl }) refl refl refl (omega arith);
}

-- ---- what was given is written

-- all of the line's text is written
pub line_printed : (w : World) (order : Order) (a b : State) (text : List ℕ) (faults faults_now taken taken_now : ℕ) (before after : Option (List ℕ)) → DoesCounted w order a b text faults faults_now taken taken_now → after ≡ appended before text → PrintsLine w order a b faults faults_now taken taken_now before after
line_printed w order a b text faults faults_now taken taken_now before after line written = record {
  did = line.did;
  does = line.does;
  text = text;
  is = line.is;
  written = written;
  faults = line.counts.faults;
  unchanged = line.counts.unchanged;
  taken = line.counts.taken;
}

-- the sink failed
pub line_unwritten : (w : World) (order : Order) (a b : State) (text : List ℕ) (faults faults_now taken taken_now sink_faults sink_faults_now : ℕ) (before after : Option (List ℕ)) → DoesCounted w order a b text faults faults_now taken taken_now → WritesPart before after text → Rose sink_faults sink_faults_now
    → StopsWriting w order a b faults faults_now sink_faults sink_faults_now before after
line_unwritten w order a b text faults faults_now taken taken_now sink_faults sink_faults_now before after line part rose = record {
  did = line.did;
  does = line.does;
  text = text;
  is = line.is;
  part = part;
  faults = line.counts.faults;
  unchanged = line.counts.unchanged;
  rose = rose;
}

-- a refusal that is known
pub refusal_known : {T : Type 0} (result : Result T RunRefusal) (refusal : RunRefusal) (P : RunRefusal → Type 0) → IsErrAnd result (λ (r : RunRefusal). r ≡ refusal) → P refusal → IfErr result P
refusal_known (Ok x) refusal P is p = tt
refusal_known (Err e) refusal P is p = subst P (sym is) p

pub no_memory_refusal : {T : Type 0} (result : Result T RunRefusal) → IsErrAnd result (λ (r : RunRefusal). r ≡ WriteFault) → result ≡ Err Memory → ⊥
no_memory_refusal (Ok x) is same = cc
no_memory_refusal (Err e) is same = cc

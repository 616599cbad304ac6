-- What a machine does that obeys an order of its driver.
use Rattle.std.proofs.Common.{◌≡◌, ℕ, ◌+◌, ◌<◌, ◌≤◌, ◌^◌, Bool, true, false, cond, List, [], ◌++◌, length, Option, Some, None, Result, Ok, Err, IfOk, OnErr, refl, sym, ap, subst, ◌∙◌, arith}
use Rattle.std.specs.Prelude.{OnOk, codes}
use Rattle.std.proofs.lemmas.List.{length-map}
use Rattle.std.proofs.lemmas.Result.{on_err_weaker}
use Rattle.frame_writer.proofs.LineLemmas.{on_err}
use Rattle.text_model.specs.Lines.{line_of}
use Rattle.text_model.specs.declared.faults.ScriptFault.TheVariants.{NotThere}
use Rattle.file_model.specs.Lists.{SeenBody}
use Rattle.script_model.specs.declared.modes.Mode.TheVariants as modes
use Rattle.script_model.specs.declared.orders.Order.{Order}
use Rattle.script_model.specs.declared.orders.Order.TheVariants as orders
use Rattle.script_model.specs.Allowed.{finds_none}
use Rattle.script_model.specs.OrderFaults.{allows, names_no_session, order_fault}
use Rattle.script_model.specs.ScriptLaws.{faultless_in_play}
use Rattle.session_model.specs.Told.{SessionTold, session_told, one_frame_more}
use Rattle.token_words.specs.Changes.{SetAt, Stays}
use Rattle.view_outside.specs.Files.{Named}
use Rattle.cache_chain.specs.ChainStates.{ChainSeen}
use Rattle.run_model.specs.Worlds.{World}
use Rattle.run_model.specs.States.{State}
use Rattle.run_model.specs.Events.{Stays as NoEvent}
use Rattle.run_model.specs.Lines.{DidFrame, Does}
use Rattle.run_model.specs.LineTexts.{turn_lines}
use Rattle.run_laws.specs.LineLaws.{does_reaches}
use Rattle.session_seats.specs.Seats.{seat_told, state_of, HasView}
use Rattle.tier_model.specs.Tiers.{TierState}
use Rattle.view_machine.specs.AllowedOrders.{frames_viewed}
use Rattle.view_machine.specs.FastBodies.{IsFastBody}
use Rattle.view_machine.specs.LineCounts.{DoesCounted}
use Rattle.view_machine.specs.LineEnds.{stage_of, history_of}
use Rattle.view_machine.specs.LineHistories.{told_is, frames_open, stages_set, stage_again, stages_stay}
use Rattle.view_machine.specs.LineOutputs.{LineKeeps, LineGives, on_ok, frames_same, version_same, history_same, rises, rises_still, seat_keeps, tier_keeps}
use Rattle.view_machine.specs.Machines.{MachineSeen, world_of, run_state, KeepsPlace}
use Rattle.view_machine.specs.OwnStops.{StopsIn, own_stops}
use Rattle.view_machine.specs.ShownFrames.{ShowsFrame, frame_shown}
use Rattle.view_machine.specs.ShownSeen.{ShownSeen}
use Rattle.view_machine.specs.Stops.{StopsAt, AtEvents}
use Rattle.view_machine.specs.TurnClauses.{if_ok_then}
use Rattle.view_machine.specs.TurnRounds.{AddsRounds, rounds_reach}
use Rattle.live_model.specs.declared.orders.LiveOrder.{LiveOrder}
use Rattle.live_model.specs.declared.orders.LiveOrder.TheVariants as live
use Rattle.live_model.specs.LiveLines.{LiveDid, DidPlay, DidShow, DidGive, DidRounds, OrderDoes, Plays, Shows, Gives, TurnsAll}
use Rattle.live_model.specs.LiveOrders.{live_fault, live_history_after}
use Rattle.live_model.specs.Places.{place_of}
use Rattle.live_model.specs.LiveTexts.{IsAnswerOf, given_text, rounds_text}

-- the order does this in the state, and is answered by the text
pub record ObeysOrder (w : World) (a : State) (order : LiveOrder) (b : State) (text : List ℕ) : Type 0 where
  pub did : LiveDid
  pub does : OrderDoes w a order did b
  pub is : IsAnswerOf did text

-- what an order gives that ended with this result: its answer, or where it stopped
pub record ObeyGives {S T E : Type 0} (order : LiveOrder) (old new : MachineSeen S) (files files_now : Option (List Named)) (faults faults_now : ℕ) (result : Result T E) (text : T → List ℕ) : Type 0 where
  pub line : IfOk result (λ x. ObeysOrder (world_of old) (run_state old) order (run_state new) (text x))
  pub none : OnErr result (StopsAt (world_of old) (run_state old) (run_state new))
  pub history : OnOk result (history_of new ≡ live_history_after (history_of old) order)
  pub keeps : LineKeeps old new files files_now faults faults_now

-- ---- an order of a script

pub play_gives : {S T E : Type 0} (order : Order) (old new : MachineSeen S) (files files_now : Option (List Named)) (faults faults_now taken taken_now : ℕ) (result : Result T E) (text : T → List ℕ)
    → LineGives order old new files files_now faults faults_now taken taken_now result text → ObeyGives (live.Play order) old new files files_now faults faults_now result text
play_gives order old new files files_now faults faults_now taken taken_now result text gives = record {
  line = if_ok_then result (λ x counted. record { did = DidPlay counted.did; does = Plays counted.does; is = counted.is }) gives.line;
  none = on_err_weaker result (own_stops (world_of old) (run_state old) order (run_state new)) gives.none;
  history = gives.history;
  keeps = gives.keeps;
}

-- ---- a frame that is shown

-- the frame was shown, and an answer was made of it or not
module _ {S T E : Type 0} (files : S → Option (List Named)) (faults taken : S → ℕ) (old new : MachineSeen S) (result : Result T E) (text : T → List ℕ) (i : ℕ) (there : HasView old.seats.sessions i) where
  pub show_gives : (shown : ShownSeen) → ShowsFrame (world_of old) i (run_state old) (run_state new) new.chain.tiers shown → IfOk result (λ x. IsAnswerOf (DidShow (frame_shown shown)) (text x))
      → ((told : SessionTold) → seat_told old.seats.sessions i ≡ Some told → SetAt (seat_told old.seats.sessions) i (Some (one_frame_more told)) (seat_told new.seats.sessions))
      → KeepsPlace old new → new.board ≡ old.board → new.chain ≡ old.chain
      → ObeyGives (live.Show i) old new (files old.chain.store) (files new.chain.store) (faults old.chain.store) (faults new.chain.store) result text
  show_gives shown shows answers told place board chain =
      let s = there.session in
      let sets = told (session_told s) (told_is old.seats.sessions i s there.at) in
      let most = frames_open old.seats.sessions i s there.at in
      let value : Option SessionTold = Some (one_frame_more (session_told s)) in
      record {
        line = if_ok_then result (λ x is. record { did = DidShow (frame_shown shown); does = Shows i shows.does; is = is }) answers;
        none = on_err result (AtEvents (does_reaches (world_of old) (run_state old) (run_state new) (orders.Frame i) (DidFrame (frame_shown shown)) shows.does));
        history = on_ok result (stages_set old.seats.sessions new.seats.sessions i value sets ∙ stage_again old.seats.sessions i s there.at);
        keeps =
            seat_keeps files faults taken old new result text place chain (version_same old new board)
            (rises files faults taken old new result text i value sets (omega (arith, most)));
      }

  -- the session's round found no memory
  pub show_stops : IfOk result (λ x. ⊥) → OnErr result (StopsIn (world_of old) (run_state old) (orders.Frame i) (run_state new)) → Stays (seat_told old.seats.sessions) (seat_told new.seats.sessions)
      → KeepsPlace old new → new.board ≡ old.board → new.chain ≡ old.chain
      → ObeyGives (live.Show i) old new (files old.chain.store) (files new.chain.store) (faults old.chain.store) (faults new.chain.store) result text
  show_stops never stops stays place board chain = record {
    line = if_ok_then result (λ x no. absurd no) never;
    none = on_err_weaker result (own_stops (world_of old) (run_state old) (orders.Frame i) (run_state new)) stops;
    history = on_ok result (stages_stay old.seats.sessions new.seats.sessions stays);
    keeps = seat_keeps files faults taken old new result text place chain (version_same old new board) (rises_still files faults taken old new result text stays);
  }

-- ---- a body that is given

pub body_line : (w : World) (a : State) (p : ℕ) (body : SeenBody) (text : List ℕ) → IsFastBody w a p body → text ≡ given_text p body → ObeysOrder w a (live.Body p) a text
body_line w a p body text fast is = record {
  did = DidGive p fast.held.body;
  does = Gives p fast.held;
  is = is ∙ ap (given_text p) (sym fast.same);
}

-- where it is none, the machine is as it was
pub body_gives : {S T E : Type 0} (files : S → Option (List Named)) (faults : S → ℕ) (m : MachineSeen S) (result : Result T E) (text : T → List ℕ) (p : ℕ) → IfOk result (λ x. ObeysOrder (world_of m) (run_state m) (live.Body p) (run_state m) (text x))
    → ObeyGives (live.Body p) m m (files m.chain.store) (files m.chain.store) (faults m.chain.store) (faults m.chain.store) result text
body_gives files faults m result text p line = record {
  line = line;
  none = on_err result (AtEvents NoEvent);
  history = on_ok result refl;
  keeps = record {
    place = record { world = refl; mesh = refl; file = refl; bytes = refl; lender = refl };
    files = refl;
    later = omega arith;
    version = omega arith;
    frames = frames_same m m refl;
    tiers = refl;
  };
}

-- ---- rounds of turns

module _ {S T E : Type 0} (files : S → Option (List Named)) (faults taken : S → ℕ) (old new : MachineSeen S) (result : Result T E) (text : T → List ℕ) (n : ℕ) where
  turns_keep : OnOk result (history_of new ≡ live_history_after (history_of old) (live.Turns n)) → IfOk result (λ x. ObeysOrder (world_of old) (run_state old) (live.Turns n) (run_state new) (text x)) → OnErr result (StopsAt (world_of old) (run_state old) (run_state new))
      → KeepsPlace old new → new.seats ≡ old.seats → new.board ≡ old.board → files new.chain.store ≡ files old.chain.store → faults old.chain.store ≤ faults new.chain.store
      → ObeyGives (live.Turns n) old new (files old.chain.store) (files new.chain.store) (faults old.chain.store) (faults new.chain.store) result text
  turns_keep history line none place seats board same later = record {
    line = line;
    none = none;
    history = history;
    keeps = tier_keeps files faults taken old new result text place seats board same later;
  }

  -- the rounds were made, and a last line was put behind theirs or not
  pub turns_gives : (empty lines : List ℕ) → empty ≡ [] → AddsRounds (world_of old) n (run_state old) (run_state new) empty lines → IfOk result (λ x. text x ≡ lines ++ line_of (codes "end") [])
      → KeepsPlace old new → new.seats ≡ old.seats → new.board ≡ old.board → files new.chain.store ≡ files old.chain.store → faults old.chain.store ≤ faults new.chain.store
      → ObeyGives (live.Turns n) old new (files old.chain.store) (files new.chain.store) (faults old.chain.store) (faults new.chain.store) result text
  unfolding rounds_text
  turns_gives empty lines none adds answers place seats board same later =
      turns_keep (on_ok result (history_same old new seats))
      (if_ok_then result (λ x is. record {
        did = DidRounds adds.log;
        does = TurnsAll n adds.rounds;
        is = is ∙ ap (λ (t : List ℕ). t ++ line_of (codes "end") []) (adds.adds ∙ ap (λ (t : List ℕ). t ++ turn_lines adds.log) none);
      }) answers)
      (on_err result (AtEvents (rounds_reach (world_of old) n (run_state old) (run_state new) empty lines adds)))
      place seats board same later

  pub turns_stop : IfOk result (λ x. ⊥) → OnErr result (StopsAt (world_of old) (run_state old) (run_state new)) → KeepsPlace old new → new.seats ≡ old.seats → new.board ≡ old.board → files new.chain.store ≡ files old.chain.store → faults old.chain.store ≤ faults new.chain.store
      → ObeyGives (live.Turns n) old new (files old.chain.store) (files new.chain.store) (faults old.chain.store) (faults new.chain.store) result text
  turns_stop never stops place seats board same later =
      turns_keep (on_ok result (history_same old new seats)) (if_ok_then result (λ x no. absurd no) never) stops place seats board same later

-- ---- what an order without a fault may do

pub obey_as : {S T E : Type 0} (order same : LiveOrder) (old new : MachineSeen S) (files files_now : Option (List Named)) (faults faults_now : ℕ) (result : Result T E) (text : T → List ℕ) → order ≡ same
    → ObeyGives same old new files files_now faults faults_now result text → ObeyGives order old new files files_now faults faults_now result text
obey_as order same old new files files_now faults faults_now result text is gives = subst (λ (o : LiveOrder). ObeyGives o old new files files_now faults faults_now result text) (sym is) gives

module _ {S : Type 0} (m : MachineSeen S) where
  faultless : (order : Order) → order_fault modes.Play (length (world_of m).budgets) (λ i. stage_of ((run_state m).sessions i)) 0 order ≡ None → allows (length m.chain.tiers) (history_of m) order ≡ true
  unfolding state_of
  faultless order none =
      faultless_in_play (length m.chain.tiers) (history_of m) 0 order
      (sym (ap (λ (n : ℕ). order_fault modes.Play n (history_of m) 0 order) (length-map m.chain.tiers (λ (t : TierState). t.budget))) ∙ none)

  abbrev IsFaultless : LiveOrder → Type 0
  IsFaultless order = live_fault (place_of (world_of m) (run_state m)) order ≡ None

  pub play_allowed : (order : LiveOrder) (play : Order) → order ≡ live.Play play → IsFaultless order → allows (length m.chain.tiers) (history_of m) play ≡ true
  play_allowed order play is none = faultless play (subst IsFaultless is none)

  pub play_numbered : (order : LiveOrder) → IsFaultless order → (play : Order) → order ≡ live.Play play → names_no_session play ≡ false
  play_numbered order none play is = (finds_none (length m.chain.tiers) (history_of m) play (play_allowed order play is none)).number

  pub show_viewed : (order : LiveOrder) (i : ℕ) → order ≡ live.Show i → IsFaultless order → HasView m.seats.sessions i
  show_viewed order i is none = frames_viewed (length m.chain.tiers) m.seats.sessions i (faultless (orders.Frame i) (subst IsFaultless is none))

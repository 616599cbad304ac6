-- What a machine answers to a line.
use Rattle.std.proofs.Common.{◌≡◌, ℕ, Bool, true, false, cond, List, [], Option, Some, None, Result, Ok, Err, IfOk, OnErr, refl, sym, ap, subst, ◌∙◌, arith, nat_lt, length}
use Rattle.std.specs.Prelude.{OnOk, ◌∷◌, if◌then◌else◌}
use Rattle.std.specs.List.{list_all}
use Rattle.frame_writer.proofs.LineLemmas.{on_err}
use Rattle.text_model.specs.declared.faults.ScriptFault.{ScriptFault}
use Rattle.text_model.specs.declared.faults.ScriptFault.TheVariants.{TooLong, NotText}
use Rattle.script_model.specs.ScriptLines.{words_of, is_text_byte}
use Rattle.script_model.specs.Orders.{◌>>=◌}
use Rattle.view_outside.specs.Files.{Named}
use Rattle.run_model.specs.Worlds.{World}
use Rattle.run_model.specs.States.{State}
use Rattle.run_model.specs.Events.{Stays as NoEvent}
use Rattle.view_machine.specs.LineEnds.{history_of}
use Rattle.view_machine.specs.LineOutputs.{LineKeeps, on_ok, frames_same}
use Rattle.view_machine.specs.Machines.{MachineSeen, world_of, run_state}
use Rattle.view_machine.specs.Stops.{StopsAt, AtEvents}
use Rattle.view_machine.specs.TurnClauses.{if_ok_then}
use Rattle.view_script.specs.declared.sessions.Sessions.{Sessions}
use Rattle.live_model.specs.declared.orders.LiveOrder.{LiveOrder}
use Rattle.live_model.specs.declared.limits.TheConstants.{MOST_LINE}
use Rattle.live_model.specs.Places.{Place, place_of}
use Rattle.live_model.specs.LiveOrders.{live_fault, live_unless, live_spelt_in, live_words_in, live_in}
use Rattle.live_model.specs.LiveLines.{LiveDid, DidNothing, DidRefuse, LiveDoes, Skips, Refuses, Obeys}
use Rattle.live_model.specs.LiveTexts.{IsAnswerOf, refused_text}
use Rattle.live_machine.specs.Judging.{HasHistory}
use Rattle.live_machine.specs.Obeying.{ObeyGives}

-- the line does this in the state, and is answered by the text
pub record AnswersLine (w : World) (a b : State) (line text : List ℕ) : Type 0 where
  pub did : LiveDid
  pub does : LiveDoes w a line did b
  pub is : IsAnswerOf did text

-- what a line gives that ended with this result: its answer, or where it stopped
pub record AnswerGives {S T E : Type 0} (line : List ℕ) (old new : MachineSeen S) (sessions : Sessions) (files files_now : Option (List Named)) (faults faults_now : ℕ) (result : Result T E) (text : T → List ℕ) : Type 0 where
  pub line_is : IfOk result (λ x. AnswersLine (world_of old) (run_state old) (run_state new) line (text x))
  pub none : OnErr result (StopsAt (world_of old) (run_state old) (run_state new))
  pub history : OnOk result (HasHistory new sessions)
  pub keeps : LineKeeps old new files files_now faults faults_now

-- ---- an order that was read has no fault

unless_allowed : (order : LiveOrder) (fault : Option ScriptFault) (read : LiveOrder) → live_unless order fault ≡ Ok (Some read) → (order ≡ read) × (fault ≡ None)
unless_allowed order None read is = (cc, refl)
unless_allowed order (Some fault) read is = absurd cc

spelt_allowed : (place : Place) (spelt : Result LiveOrder ScriptFault) (read : LiveOrder) → (spelt >>= λ order. live_unless order (live_fault place order)) ≡ Ok (Some read) → live_fault place read ≡ None
spelt_allowed place (Ok order) read is =
    let parts = unless_allowed order (live_fault place order) read is in
    subst (λ (o : LiveOrder). live_fault place o ≡ None) parts.0 parts.1
spelt_allowed place (Err fault) read is = absurd cc

words_allowed : (place : Place) (words : List (List ℕ)) (read : LiveOrder) → live_words_in place words ≡ Ok (Some read) → live_fault place read ≡ None
unfolding live_words_in
words_allowed place [] read is = absurd cc
words_allowed place (word ∷ words) read is = spelt_allowed place (live_spelt_in (word ∷ words)) read is

text_allowed : (place : Place) (is_text : Bool) (words : List (List ℕ)) (read : LiveOrder) → (if is_text then live_words_in place words else Err (NotText 0)) ≡ Ok (Some read) → live_fault place read ≡ None
text_allowed place true words read is = words_allowed place words read is
text_allowed place false words read is = absurd cc

long_allowed : (place : Place) (is_long is_text : Bool) (words : List (List ℕ)) (read : LiveOrder) → (if is_long then Err TooLong else if is_text then live_words_in place words else Err (NotText 0)) ≡ Ok (Some read) → live_fault place read ≡ None
long_allowed place true is_text words read is = absurd cc
long_allowed place false is_text words read is = text_allowed place is_text words read is

pub read_is_allowed : (place : Place) (bytes : List ℕ) (read : LiveOrder) → live_in place bytes ≡ Ok (Some read) → live_fault place read ≡ None
unfolding live_in
read_is_allowed place bytes read is = long_allowed place (nat_lt MOST_LINE (length bytes)) (list_all is_text_byte bytes) (words_of bytes) read is

-- ---- answers

-- an order's
pub order_answers : {S T E : Type 0} (line : List ℕ) (order : LiveOrder) (old new : MachineSeen S) (sessions : Sessions) (files files_now : Option (List Named)) (faults faults_now : ℕ) (result : Result T E) (text : T → List ℕ)
    → Ok (Some order) ≡ live_in (place_of (world_of old) (run_state old)) line → ObeyGives order old new files files_now faults faults_now result text → OnOk result (HasHistory new sessions)
    → AnswerGives line old new sessions files files_now faults faults_now result text
order_answers line order old new sessions files files_now faults faults_now result text read gives history = record {
  line_is = if_ok_then result (λ x obeys. record { did = obeys.did; does = Obeys order (sym read) obeys.does; is = obeys.is }) gives.line;
  none = gives.none;
  history = history;
  keeps = gives.keeps;
}

-- one where nothing changes
pub still_answers : {S T E : Type 0} (files : S → Option (List Named)) (faults : S → ℕ) (line : List ℕ) (m : MachineSeen S) (sessions : Sessions) (result : Result T E) (text : T → List ℕ)
    → HasHistory m sessions → IfOk result (λ x. AnswersLine (world_of m) (run_state m) (run_state m) line (text x))
    → AnswerGives line m m sessions (files m.chain.store) (files m.chain.store) (faults m.chain.store) (faults m.chain.store) result text
still_answers files faults line m sessions result text history answers = record {
  line_is = answers;
  none = on_err result (AtEvents NoEvent);
  history = on_ok result history;
  keeps = record {
    place = record { world = refl; mesh = refl; file = refl; bytes = refl; lender = refl };
    files = refl;
    later = omega arith;
    version = omega arith;
    frames = frames_same m m refl;
    tiers = refl;
  };
}

pub skips_line : (w : World) (a : State) (line text : List ℕ) → Ok None ≡ live_in (place_of w a) line → text ≡ [] → AnswersLine w a a line text
skips_line w a line text read is = record { did = DidNothing; does = Skips (sym read); is = is }

pub refuses_line : (w : World) (a : State) (line text : List ℕ) (fault : ScriptFault) → Err fault ≡ live_in (place_of w a) line → text ≡ refused_text fault → AnswersLine w a a line text
refuses_line w a line text fault read is = record { did = DidRefuse fault; does = Refuses fault (sym read); is = is }

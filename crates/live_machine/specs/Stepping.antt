-- The step of driving: a line that was read, and what came of it.
use Rattle.std.proofs.Common.{◌≡◌, ℕ, ◌<◌, ◌≤◌, Bool, true, false, List, length, Option, None, Result, Ok, Err, IfOk, OnErr, refl, sym, ap, subst, ◌∙◌, arith, nat_lt}
use Rattle.std.specs.Prelude.{IfErr}
use Rattle.std.specs.Result.{IsErrAnd}
use Rattle.std.proofs.lemmas.Bool.{le-ltb, lt-ltb}
use Rattle.std.proofs.Math.Path.{fun_ext}
use Rattle.text_model.specs.declared.faults.ScriptFault.{ScriptFault}
use Rattle.text_model.specs.declared.faults.ScriptFault.TheVariants.{TooLong}
use Rattle.script_model.specs.Histories.{no_sessions}
use Rattle.session_model.specs.Sessions.{SessionState}
use Rattle.session_seats.specs.Seats.{at_seat}
use Rattle.view_outside.specs.Streams.{appended}
use Rattle.view_outside.specs.Written.{WritesPart}
use Rattle.line_reader.specs.declared.lines.LineRead.{LineRead}
use Rattle.line_reader.specs.declared.lines.LineRead.TheVariants.{Line, Long, End}
use Rattle.line_reader.specs.declared.refusals.LineRefusal.{LineRefusal}
use Rattle.line_reader.specs.declared.refusals.LineRefusal.TheVariants as readings
use Rattle.line_reader.specs.Bytes.{HasNoByte}
use Rattle.line_reader.specs.Lines.{IsNextLine, FindsLine}
use Rattle.run_model.specs.Worlds.{World}
use Rattle.run_model.specs.States.{State}
use Rattle.run_model.specs.Events.{Stays as NoEvent}
use Rattle.view_machine.specs.LineEnds.{stage_of, history_of}
use Rattle.view_machine.specs.Machines.{MachineSeen}
use Rattle.view_machine.specs.Stops.{StopsAt, AtEvents}
use Rattle.view_script.specs.Stages.{history_of as kept_history}
use Rattle.view_script.specs.declared.sessions.Sessions.{Sessions}
use Rattle.live_model.specs.declared.limits.TheConstants.{MOST_LINE}
use Rattle.live_model.specs.declared.orders.LiveOrder.{LiveOrder}
use Rattle.live_model.specs.Places.{Place}
use Rattle.live_model.specs.LiveOrders.{live_in}
use Rattle.live_machine.specs.declared.refusals.DriveRefusal.{DriveRefusal}
use Rattle.live_machine.specs.declared.refusals.DriveRefusal.TheVariants.{ReadFault, WriteFault, Memory}
use Rattle.live_machine.specs.Answering.{AnswersLine}
use Rattle.live_machine.specs.Judging.{HasHistory}
use Rattle.live_machine.specs.Refused.{of_reading}

-- the line that was read: the one that the reader holds, or one that is too long
abbrev pub IsRead : LineRead → List ℕ → List ℕ → Type 0
IsRead Line line held = line ≡ held
IsRead Long line held = MOST_LINE < length line
IsRead End line held = ⊥

-- the next line was answered, and the answer was written
pub record AnswersNext (w : World) (a b : State) (kept kept_now : List ℕ) (rest rest_now before after : Option (List ℕ)) : Type 0 where
  pub line : List ℕ
  pub next : IsNextLine line kept kept_now rest rest_now
  pub text : List ℕ
  pub answers : AnswersLine w a b line text
  pub written : after ≡ appended before text

-- there was no further byte, and nothing was done
pub record EndsThere (a b : State) (kept kept_now : List ℕ) (rest rest_now before after : Option (List ℕ)) : Type 0 where
  pub end : HasNoByte kept kept_now rest rest_now
  pub same : b ≡ a
  pub nothing : after ≡ before

abbrev pub NextGives : Bool → World → State → State → List ℕ → List ℕ → Option (List ℕ) → Option (List ℕ) → Option (List ℕ) → Option (List ℕ) → Type 0
NextGives true w a b kept kept_now rest rest_now before after = AnswersNext w a b kept kept_now rest rest_now before after
NextGives false w a b kept kept_now rest rest_now before after = EndsThere a b kept kept_now rest rest_now before after

-- the next line was answered, and a proper prefix of the answer was written
pub record AnswersPart (w : World) (a b : State) (kept kept_now : List ℕ) (rest rest_now before after : Option (List ℕ)) : Type 0 where
  pub line : List ℕ
  pub next : IsNextLine line kept kept_now rest rest_now
  pub text : List ℕ
  pub answers : AnswersLine w a b line text
  pub part : WritesPart before after text

-- there was no memory, to read or to answer: events lead to where the machine stands, and nothing was written
pub record StopsUnwritten (w : World) (a b : State) (before after : Option (List ℕ)) : Type 0 where
  pub stops : StopsAt w a b
  pub nothing : after ≡ before

-- the source failed: nothing was done
pub record StopsUnread (a b : State) (before after : Option (List ℕ)) : Type 0 where
  pub same : b ≡ a
  pub nothing : after ≡ before

abbrev pub StopsNext : DriveRefusal → World → State → State → List ℕ → List ℕ → Option (List ℕ) → Option (List ℕ) → Option (List ℕ) → Option (List ℕ) → Type 0
StopsNext ReadFault w a b kept kept_now rest rest_now before after = StopsUnread a b before after
StopsNext Memory w a b kept kept_now rest rest_now before after = StopsUnwritten w a b before after
StopsNext WriteFault w a b kept kept_now rest rest_now before after = AnswersPart w a b kept kept_now rest rest_now before after

-- ---- no session is open

pub none_open : {S : Type 0} (m : MachineSeen S) (sessions : Sessions) → ((i : ℕ) → at_seat m.seats.sessions i ≡ None) → kept_history sessions ≡ no_sessions → HasHistory m sessions
none_open m sessions closed kept =
    let none : history_of m ≡ no_sessions = fun_ext (λ (i : ℕ). ap stage_of (closed i)) in
    record { same = none ∙ sym kept }

-- ---- the line that was found

pub record HasNext (found : LineRead) (held kept kept_now : List ℕ) (rest rest_now : Option (List ℕ)) : Type 0 where
  pub line : List ℕ
  pub read : IsRead found line held
  pub next : IsNextLine line kept kept_now rest rest_now

next_found : (found : LineRead) (held kept kept_now : List ℕ) (rest rest_now : Option (List ℕ)) → (found ≡ End → ⊥) → FindsLine found MOST_LINE kept kept_now rest rest_now held → HasNext found held kept kept_now rest rest_now
next_found Line held kept kept_now rest rest_now more finds = record { line = held; read = refl; next = finds.next }
next_found Long held kept kept_now rest rest_now more finds = record { line = finds.line; read = finds.long; next = finds.next }
next_found End held kept kept_now rest rest_now more finds = absurd (more refl)

pub short_found : (found : LineRead) (held kept kept_now : List ℕ) (rest rest_now : Option (List ℕ)) → FindsLine found MOST_LINE kept kept_now rest rest_now held → found ≡ Line → length held ≤ 4096
short_found Line held kept kept_now rest rest_now finds is = finds.short
short_found Long held kept kept_now rest rest_now finds is = absurd cc
short_found End held kept kept_now rest rest_now finds is = absurd cc

pub end_found : (found : LineRead) (held kept kept_now : List ℕ) (rest rest_now : Option (List ℕ)) → found ≡ End → FindsLine found MOST_LINE kept kept_now rest rest_now held → HasNoByte kept kept_now rest rest_now
end_found found held kept kept_now rest rest_now is finds = subst (λ (f : LineRead). FindsLine f MOST_LINE kept kept_now rest rest_now held) is finds

-- a line of too many bytes
pub long_in : (place : Place) (line : List ℕ) → MOST_LINE < length line → Err TooLong ≡ live_in place line
unfolding live_in
long_in place line long = let is : nat_lt MOST_LINE (length line) ≡ true = lt-ltb MOST_LINE (length line) long in rw is refl

-- the line that was found, by what the reader holds
pub next_held : (found : LineRead) (held line kept kept_now : List ℕ) (rest rest_now : Option (List ℕ)) → (found ≡ End → ⊥) → held ≡ line → FindsLine found MOST_LINE kept kept_now rest rest_now line → HasNext found held kept kept_now rest rest_now
next_held found held line kept kept_now rest rest_now more same finds =
    next_found found held kept kept_now rest rest_now more (subst (λ (xs : List ℕ). FindsLine found MOST_LINE kept kept_now rest rest_now xs) (sym same) finds)

-- what was read is what the reader holds, or is too long
pub line_read : (found : LineRead) (line held : List ℕ) → found ≡ Line → IsRead found line held → line ≡ held
line_read found line held is read = subst (λ (f : LineRead). IsRead f line held) is read

pub long_read : (found : LineRead) (line held : List ℕ) → (found ≡ Line → ⊥) → IsRead found line held → MOST_LINE < length line
long_read Line line held other read = absurd (other refl)
long_read Long line held other read = read
long_read End line held other read = absurd read

-- ---- refusals

-- a refusal that is known
pub refusal_known : {T : Type 0} (result : Result T DriveRefusal) (refusal : DriveRefusal) (P : DriveRefusal → Type 0) → IsErrAnd result (λ (r : DriveRefusal). r ≡ refusal) → P refusal → IfErr result P
refusal_known (Ok x) refusal P is p = tt
refusal_known (Err e) refusal P is p = subst P (sym is) p

-- no line could be read
pub unread_stops : (reading : LineRefusal) (w : World) (a : State) (kept kept_now : List ℕ) (rest rest_now before : Option (List ℕ)) → StopsNext (of_reading reading) w a a kept kept_now rest rest_now before before
unread_stops readings.ReadFault w a kept kept_now rest rest_now before = record { same = refl; nothing = refl }
unread_stops readings.Memory w a kept kept_now rest rest_now before = record { stops = AtEvents NoEvent; nothing = refl }

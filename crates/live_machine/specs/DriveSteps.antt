-- Driving by one line more.
use Rattle.std.proofs.Common.{◌≡◌, ℕ, ◌+◌, List, [], ◌∷◌, ◌++◌, length, inl, inr, Option, None, refl, sym, ap, subst, ◌∙◌, append_assoc, append-nil, length-append, arith}
use Rattle.view_outside.specs.Streams.{appended, appended-nil}
use Rattle.view_outside.specs.Written.{appended-after, WritesPart-after}
use Rattle.line_reader.specs.Lines.{IsNextLine}
use Rattle.std.specs.Option.{option_map_or}
use Rattle.session_model.specs.Sessions.{SessionState}
use Rattle.session_seats.specs.Seats.{at_seat}
use Rattle.run_model.specs.Worlds.{World}
use Rattle.run_model.specs.States.{State}
use Rattle.run_model.specs.Events.{Stays as NoEvent}
use Rattle.view_machine.specs.LineEnds.{frames_at}
use Rattle.view_machine.specs.Stops.{StopsAt, AtEvents}
use Rattle.live_model.specs.declared.limits.TheConstants.{MOST_LINES}
use Rattle.live_model.specs.LiveLines.{LiveDid, LiveDoes, LiveRuns, NoLine, OneLine}
use Rattle.live_model.specs.LiveTexts.{IsAnswerOf, AreAnswersOf, NoAnswer, OneAnswer}
use Rattle.live_machine.specs.declared.refusals.DriveRefusal.{DriveRefusal}
use Rattle.live_machine.specs.declared.refusals.DriveRefusal.TheVariants.{ReadFault, WriteFault, Memory}
use Rattle.live_machine.specs.Answering.{AnswersLine}
use Rattle.live_machine.specs.Stepping.{AnswersNext, EndsThere, StopsNext}
use Rattle.live_machine.specs.TakenLines.{HasTaken, none_taken, taken_more, taken_still}
use Rattle.live_machine.specs.Drives.{RunsLines, HasDriven, DrivesThrough, StopsDriving}

runs_more : (w : World) (a b c : State) (lines : List (List ℕ)) (dids : List LiveDid) (line : List ℕ) (did : LiveDid) → LiveRuns w a lines dids b → LiveDoes w b line did c
    → LiveRuns w a (lines ++ line ∷ []) (dids ++ did ∷ []) c
runs_more w a b c _ _ line did NoLine does = OneLine does NoLine
runs_more w a b c _ _ line did (OneLine {b = d} {lines = lines} {dids = dids} first later) does = OneLine first (runs_more w d b c lines dids line did later does)

answers_more : (dids : List LiveDid) (text : List ℕ) (did : LiveDid) (more : List ℕ) → AreAnswersOf dids text → IsAnswerOf did more → AreAnswersOf (dids ++ did ∷ []) (text ++ more)
answers_more _ _ did more NoAnswer is = subst (AreAnswersOf (did ∷ [])) (append-nil more) (OneAnswer more [] is NoAnswer)
answers_more _ _ did more (OneAnswer {did = first} {dids = dids} text rest answer later) is =
    subst (AreAnswersOf (first ∷ (dids ++ did ∷ []))) (sym (append_assoc text rest more)) (OneAnswer text (rest ++ more) answer (answers_more dids rest did more later is))

-- ---- what is driven

abbrev pub nothing_driven : (w : World) (a : State) (told before : Option (List ℕ)) (kept : List ℕ) → kept ≡ [] → HasDriven w a a told kept told before before
nothing_driven w a told before kept none = record {
  text = [];
  ran = record {
    lines = [];
    taken = subst (λ (k : List ℕ). HasTaken told [] k told) (sym none) (none_taken told);
    dids = [];
    runs = NoLine;
    answers = NoAnswer;
  };
  written = sym (appended-nil before);
}

module _ (w : World) (a b : State) (told : Option (List ℕ)) (kept : List ℕ) (rest before mid : Option (List ℕ)) (driven : HasDriven w a b told kept rest before mid) where
  abbrev ran_more : (c : State) (line text kept_now : List ℕ) (rest_now : Option (List ℕ)) → IsNextLine line kept kept_now rest rest_now → AnswersLine w b c line text
      → RunsLines w a c told kept_now rest_now (driven.text ++ text)
  ran_more c line text kept_now rest_now next answers = record {
    lines = driven.ran.lines ++ line ∷ [];
    taken = taken_more told driven.ran.lines line kept kept_now rest rest_now driven.ran.taken next;
    dids = driven.ran.dids ++ answers.did ∷ [];
    runs = runs_more w a b c driven.ran.lines driven.ran.dids line answers.did driven.ran.runs answers.does;
    answers = answers_more driven.ran.dids driven.text answers.did text driven.ran.answers answers.is;
  }

  -- one line more was answered
  pub record DrivesOn (c : State) (kept_now : List ℕ) (rest_now after : Option (List ℕ)) : Type 0 where
    pub on : HasDriven w a c told kept_now rest_now before after
    pub one : length on.ran.lines ≡ length driven.ran.lines + 1

  pub driven_more : (c : State) (kept_now : List ℕ) (rest_now after : Option (List ℕ)) → AnswersNext w b c kept kept_now rest rest_now mid after → DrivesOn c kept_now rest_now after
  driven_more c kept_now rest_now after next = record {
    on = record {
      text = driven.text ++ next.text;
      ran = ran_more c next.line next.text kept_now rest_now next.next next.answers;
      written = appended-after before mid after driven.text next.text driven.written next.written;
    };
    one = length-append driven.ran.lines (next.line ∷ []);
  }

  -- the source ended
  pub driven_ends : (c : State) (kept_now : List ℕ) (rest_now after : Option (List ℕ)) → EndsThere b c kept kept_now rest rest_now mid after → DrivesThrough w a c told rest_now before after
  driven_ends c kept_now rest_now after ends = record {
    kept = kept_now;
    driven = record {
      text = driven.text;
      ran = record {
        lines = driven.ran.lines;
        taken = taken_still told driven.ran.lines kept kept_now rest rest_now driven.ran.taken (ends.end.none_now ∙ sym ends.end.none_kept) ends.end.is_read;
        dids = driven.ran.dids;
        runs = subst (LiveRuns w a driven.ran.lines driven.ran.dids) (sym ends.same) driven.ran.runs;
        answers = driven.ran.answers;
      };
      written = ends.nothing ∙ driven.written;
    };
    end = inl (ends.end.none_now, ends.end.at_end);
  }

  between : (c : State) (after : Option (List ℕ)) → StopsAt w b c → after ≡ mid → StopsDriving Memory w a c told rest before after
  between c after stops nothing = record {
    reached = b;
    kept = kept;
    rest = rest;
    driven = subst (HasDriven w a b told kept rest before) (sym nothing) driven;
    stops = stops;
  }

  -- driving stops at the next line
  pub driven_stops : (refusal : DriveRefusal) (c : State) (kept_now : List ℕ) (rest_now after : Option (List ℕ)) → StopsNext refusal w b c kept kept_now rest rest_now mid after
      → StopsDriving refusal w a c told rest_now before after
  driven_stops ReadFault c kept_now rest_now after stops = between c after (subst (StopsAt w b) (sym stops.same) (AtEvents NoEvent)) stops.nothing
  driven_stops Memory c kept_now rest_now after stops = between c after stops.stops stops.nothing
  driven_stops WriteFault c kept_now rest_now after stops = record {
    kept = kept_now;
    text = driven.text ++ stops.text;
    ran = ran_more c stops.line stops.text kept_now rest_now stops.next stops.answers;
    part = WritesPart-after before mid after driven.text stops.text driven.written stops.part;
  }

-- as many lines as are answered
pub driven_full : (w : World) (a b : State) (told : Option (List ℕ)) (kept : List ℕ) (rest before after : Option (List ℕ)) (driven : HasDriven w a b told kept rest before after) → length driven.ran.lines ≡ MOST_LINES
    → DrivesThrough w a b told rest before after
driven_full w a b told kept rest before after driven many = record { kept = kept; driven = driven; end = inr many }

-- a session that isn't open has printed no frame
pub closed_frames : (sessions : List (Option SessionState)) (i : ℕ) → at_seat sessions i ≡ None → frames_at sessions i ≡ 0
closed_frames sessions i closed = ap (λ (s : Option SessionState). option_map_or (λ (s : SessionState). s.frames) s 0) closed

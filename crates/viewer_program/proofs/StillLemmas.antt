-- What words of one kind did is what the words did.
use Rattle.std.proofs.Common.{◌≡◌, ℕ, ◌+◌, true, false, List, [], inl, inr, Option, Some, None, refl, sym, ap, subst, ◌∙◌, arith}
use Rattle.std.specs.Prelude.{◌↔◌, IfSome, IsNone, is_some}
use Rattle.script_model.specs.declared.limits.TheConstants.{MOST_SCRIPT}
use Rattle.text_model.specs.declared.statuses.Status.{Status}
use Rattle.text_model.specs.declared.statuses.Status.TheVariants as statuses
use Rattle.view_outside.specs.Faults.{Rose}
use Rattle.view_outside.specs.Files.{LacksName}
use Rattle.view_outside.specs.OnlyRead.{OnlyIf}
use Rattle.line_reader.specs.Reads.{HasRead, ReadsAtMost}
use Rattle.viewer_program.specs.declared.commands.FileCommand.{FileCommand}
use Rattle.viewer_program.specs.declared.strips.StripCommand.{StripCommand}
use Rattle.viewer_program.specs.Commands.{command_in, name_in}
use Rattle.viewer_program.specs.Endings.{Ends, IsChange, IsQuiet}
use Rattle.viewer_program.specs.LiveEnds.{LiveEnds}
use Rattle.viewer_program.specs.Loading.{StopsLoading}
use Rattle.viewer_program.specs.Outside.{SourceSeen, OutsideSeen}
use Rattle.viewer_program.specs.PlayEnds.{PlayEnds, IsMissing}
use Rattle.viewer_program.specs.Playing.{PlaySeen, play_in, live_play_in}
use Rattle.viewer_program.specs.StillEnds.{CommandEnds, StripEnds, StillEnds}
use Rattle.viewer_program.specs.Strips.{strip_command_in, IsStripOutput, IsForMemory}
use Rattle.viewer_program.proofs.LiveLemmas.{live_not_usage}
use Rattle.viewer_program.proofs.PlayLemmas.{play_not_usage}
use Rattle.viewer_program.proofs.PlayWords.{no_play, no_strip, no_strip_command, no_live, no_live_play, no_strip_live}

some_not_none : {T : Type 0} (found : Option T) (x : T) → found ≡ Some x → IsNone found → ⊥
some_not_none found x is none = let e : true ≡ false = sym (ap is_some is) ∙ none in cc

has_read_none : (told : Option (List ℕ)) → HasRead told [] told
has_read_none None = refl
has_read_none (Some all) = record { behind = all; whole = refl; rest = refl }

reads_none : (before after : SourceSeen) → after ≡ before → ReadsAtMost (MOST_SCRIPT + 1) before.rest after.rest
reads_none before after same =
    subst (λ (s : SourceSeen). ReadsAtMost (MOST_SCRIPT + 1) before.rest s.rest) (sym same) (record { bytes = []; few = omega arith; read = has_read_none before.rest })

module _ (words : List (List ℕ)) (before after : OutsideSeen) (status : Status) where
  -- a command over a file
  pub command_still : (command : FileCommand) → command_in words ≡ Some command → CommandEnds command (name_in words) before after status → (status ≡ statuses.Usage → ⊥) → after.source ≡ before.source → IsChange status
      → OnlyIf statuses.WriteFault (Rose before.sink.faults after.sink.faults) status → StillEnds words before after status
  command_still command is ends known unread change fault = record {
    usage = ((λ usage. absurd (known usage)), λ none. absurd (some_not_none (command_in words) command is none.0));
    idle = λ usage. absurd (known usage);
    commands = rw is ends;
    plays = rw (no_play words command is) tt;
    lives = rw (no_live words command is) tt;
    strips = rw (no_strip words command is) tt;
    missing = rw (no_play words command is) tt;
    missing_live = rw (no_live words command is) tt;
    unread = λ _ _. unread;
    reads = λ _. reads_none before.source after.source unread;
    changed = change;
    write_fault = fault;
  }

  -- a play
  pub play_still : (play : PlaySeen) → command_in words ≡ None → play_in words ≡ Some play → PlayEnds play (name_in words) before after status → (LacksName before.store.files (name_in words) → IsMissing before after status)
      → ReadsAtMost (MOST_SCRIPT + 1) before.source.rest after.source.rest → IsChange status → OnlyIf statuses.WriteFault (Rose before.sink.faults after.sink.faults) status → StillEnds words before after status
  play_still play no_command is ends missing reads change fault =
      let known = play_not_usage play (name_in words) before after status ends in
      record {
        usage = ((λ usage. absurd (known usage)), λ none. absurd (some_not_none (play_in words) play is none.1));
        idle = λ usage. absurd (known usage);
        commands = rw no_command tt;
        plays = rw is ends;
        lives = rw (no_live_play words play is) tt;
        strips = rw (no_strip_command words play is) tt;
        missing = rw is missing;
        missing_live = rw (no_live_play words play is) tt;
        unread = λ none _. absurd (some_not_none (play_in words) play is none);
        reads = λ _. reads;
        changed = change;
        write_fault = fault;
      }

  stopped_not_usage : (play : PlaySeen) (name : List ℕ) → StopsLoading play name before.store after.store status → status ≡ statuses.Usage → ⊥
  stopped_not_usage play name stops is = subst (λ (s : Status). StopsLoading play name before.store after.store s) is stops

  live_known : (play : PlaySeen) → LiveEnds play (name_in words) before after status → status ≡ statuses.Usage → ⊥
  live_known play (inl stops) = stopped_not_usage play (name_in words) stops.1
  live_known play (inr lived) = live_not_usage lived.world status before.source after.source before.sink.written after.sink.written lived.lives

  -- a driver's run
  pub live_still : (play : PlaySeen) → command_in words ≡ None → play_in words ≡ None → live_play_in words ≡ Some play → LiveEnds play (name_in words) before after status → (LacksName before.store.files (name_in words) → IsMissing before after status) → IsChange status
      → OnlyIf statuses.WriteFault (Rose before.sink.faults after.sink.faults) status → StillEnds words before after status
  live_still play no_command no_play_in is ends missing change fault =
      let known = live_known play ends in
      record {
        usage = ((λ usage. absurd (known usage)), λ none. absurd (some_not_none (live_play_in words) play is none.2));
        idle = λ usage. absurd (known usage);
        commands = rw no_command tt;
        plays = rw no_play_in tt;
        lives = rw is ends;
        strips = rw (no_strip_live words play is) tt;
        missing = rw no_play_in tt;
        missing_live = rw is missing;
        unread = λ _ none. absurd (some_not_none (live_play_in words) play is none);
        reads = λ none. absurd (some_not_none (live_play_in words) play is none);
        changed = change;
        write_fault = fault;
      }

  strip_ends : (found : Option StripCommand) → IfSome found (λ (command : StripCommand). Ends (IsStripOutput command) IsForMemory status before.sink.written after.sink.written) → IsQuiet status before.sink.written after.sink.written → after.store ≡ before.store
      → IfSome found (λ (command : StripCommand). StripEnds command before after status)
  strip_ends None makes quiet alone = tt
  strip_ends (Some command) makes quiet alone = record { makes = makes; quiet = quiet; alone = alone }

  -- a command over a strip, or no command
  pub strip_still : command_in words ≡ None → play_in words ≡ None → live_play_in words ≡ None → ((status ≡ statuses.Usage) ↔ IsNone (strip_command_in words)) → (status ≡ statuses.Usage → after ≡ before)
      → IfSome (strip_command_in words) (λ (command : StripCommand). Ends (IsStripOutput command) IsForMemory status before.sink.written after.sink.written) → IsQuiet status before.sink.written after.sink.written
      → after.store ≡ before.store → after.source ≡ before.source → IsChange status → OnlyIf statuses.WriteFault (Rose before.sink.faults after.sink.faults) status → StillEnds words before after status
  strip_still no_command no_play_in no_live_in usage idle makes quiet alone unread change fault = record {
    usage = ((λ is. (ap is_some no_command, ap is_some no_play_in, ap is_some no_live_in, usage.0 is)), λ none. usage.1 none.3);
    idle = idle;
    commands = rw no_command tt;
    plays = rw no_play_in tt;
    lives = rw no_live_in tt;
    strips = strip_ends (strip_command_in words) makes quiet alone;
    missing = rw no_play_in tt;
    missing_live = rw no_live_in tt;
    unread = λ _ _. unread;
    reads = λ _. reads_none before.source after.source unread;
    changed = change;
    write_fault = fault;
  }

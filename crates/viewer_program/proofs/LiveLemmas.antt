-- What drove, as the command tells it.
use Rattle.std.proofs.Common.{◌≡◌, ℕ, List, Option, Result, Ok, Err, ◌⊎◌, inl, inr, refl, subst}
use Rattle.std.specs.Prelude.{OnOk, IfErr}
use Rattle.std.specs.List.{flat_map}
use Rattle.view_outside.specs.Faults.{Rose}
use Rattle.view_outside.specs.OnlyRead.{OnlyIf}
use Rattle.text_model.specs.declared.statuses.Status.{Status}
use Rattle.text_model.specs.declared.statuses.Status.TheVariants as statuses
use Rattle.run_model.specs.Worlds.{World}
use Rattle.run_model.specs.States.{State}
use Rattle.live_model.specs.LiveLines.{plain_dids}
use Rattle.live_model.specs.LiveLaws.{lines_run, lines_give}
use Rattle.live_machine.specs.declared.refusals.DriveRefusal.{DriveRefusal}
use Rattle.live_machine.specs.declared.refusals.DriveRefusal.TheVariants as drives
use Rattle.live_machine.specs.Drives.{RunsLines, DrivesThrough, StopsDriving}
use Rattle.viewer_program.specs.Endings.{IsChange}
use Rattle.viewer_program.specs.LiveEnds.{IsDriven, LivesSome, LivesOver}
use Rattle.viewer_program.specs.Outside.{SourceSeen}
use Rattle.viewer_program.specs.Promises.{OpensSafely, promises_kept}
use Rattle.viewer_program.specs.Refusals.{drive_status}

module _ (w : World) (a : State) (safely : OpensSafely w a) where
  abbrev driven_is : (b : State) (told : Option (List ℕ)) (kept : List ℕ) (rest : Option (List ℕ)) (text : List ℕ) → RunsLines w a b told kept rest text → IsDriven w told rest text
  driven_is b told kept rest text ran =
      let run = lines_run w a b ran.lines ran.dids ran.runs in
      record {
        first = a;
        opens = safely.opens;
        last = b;
        kept = kept;
        ran = ran;
        orders = run.orders;
        plays = run.runs;
        promises = promises_kept w a b run.orders (flat_map plain_dids ran.dids) safely run.runs;
        given = lines_give w a b ran.lines ran.dids ran.runs;
      }

  -- what driving says by its result
  pub drove_lives : {T : Type 0} (b : State) (source now : SourceSeen) (before after : Option (List ℕ)) (drove : Result T DriveRefusal) → OnOk drove (DrivesThrough w a b source.rest now.rest before after) → IfErr drove (λ (r : DriveRefusal). StopsDriving r w a b source.rest now.rest before after)
      → IfErr drove (OnlyIf drives.ReadFault (Rose source.faults now.faults)) → LivesOver w (drive_status drove) source now before after
  drove_lives b source now before after (Ok x) all stops rose = record {
    text = all.driven.text;
    driven = driven_is b source.rest all.kept now.rest all.driven.text all.driven.ran;
    end = all.end;
    written = all.driven.written;
  }
  drove_lives b source now before after (Err drives.WriteFault) all stops rose = record {
    text = stops.text;
    driven = driven_is b source.rest stops.kept now.rest stops.text stops.ran;
    part = stops.part;
  }
  drove_lives b source now before after (Err drives.Memory) all stops rose = inr (record {
    rest = stops.rest;
    text = stops.driven.text;
    driven = driven_is stops.reached source.rest stops.kept stops.rest stops.driven.text stops.driven.ran;
    written = stops.driven.written;
  })
  drove_lives b source now before after (Err drives.ReadFault) all stops rose = (
    record {
      rest = stops.rest;
      text = stops.driven.text;
      driven = driven_is stops.reached source.rest stops.kept stops.rest stops.driven.text stops.driven.ran;
      written = stops.driven.written;
    },
    rose refl,
  )

-- driving finds no change and no write fault but the sink's
pub drive_no_change : {T : Type 0} (drove : Result T DriveRefusal) → IsChange (drive_status drove)
drive_no_change (Ok x) = tt
drive_no_change (Err drives.ReadFault) = tt
drive_no_change (Err drives.WriteFault) = tt
drive_no_change (Err drives.Memory) = tt

pub drive_write_fault : {T : Type 0} (drove : Result T DriveRefusal) (P : Type 0) → IfErr drove (OnlyIf drives.WriteFault P) → OnlyIf statuses.WriteFault P (drive_status drove)
drive_write_fault (Ok x) P rose is = absurd cc
drive_write_fault (Err drives.ReadFault) P rose is = absurd cc
drive_write_fault (Err drives.WriteFault) P rose is = rose refl
drive_write_fault (Err drives.Memory) P rose is = absurd cc

-- a driver's run is a command
pub live_not_usage : (w : World) (status : Status) (source now : SourceSeen) (before after : Option (List ℕ)) → LivesOver w status source now before after → status ≡ statuses.Usage → ⊥
live_not_usage w status source now before after lives is = subst (λ (s : Status). LivesOver w s source now before after) is lives

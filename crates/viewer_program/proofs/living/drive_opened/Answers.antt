-- Lines are answered over what was opened.
use Rattle.std.proofs.Common.{◌≡◌, ℕ, ◌^◌, List, Option, ◌⊎◌, inl, inr, refl, sym, subst, arith}
use Rattle.std.specs.Prelude.{IfSome}
use Rattle.file_model.specs.Lists.{BodyLists}
use Rattle.mesh_model.specs.Accepted.{IsAccepted}
use Rattle.view_outside.specs.Files.{file_bytes}
use Rattle.cache_chain.specs.ChainStates.{states_of}
use Rattle.run_laws.specs.PrintedFrames.{told_file}
use Rattle.run_model.specs.Worlds.{World}
use Rattle.view_machine.specs.Machines.{world_of, run_state}
use Rattle.view_machine.specs.Openings.{world_opened}
use Rattle.viewer_program.specs.LiveEnds.{LivesOver}
use Rattle.viewer_program.specs.PlayRuns.{play_world, IsWorldOf}
use Rattle.viewer_program.specs.Outside.{SourceSeen}
use Rattle.viewer_program.specs.Promises.{OpensSafely}
use Rattle.viewer_program.specs.Refusals.{drive_status}
use Rattle.viewer_program.proofs.LiveLemmas.{drove_lives, drive_no_change, drive_write_fault}
use Rattle.viewer_program.proofs.PlayLemmas.{accepted_or_not}
use Rattle.viewer_program.proofs.RunLemmas.{no_seats, first_version}
use Rattle.viewer_program.proofs.living.drive_opened.Goals as goal

pub drive-drove-requires-clause-closed : goal.drive-drove-requires-clause-closed
drive-drove-requires-clause-closed g c = no_seats c.over_tiers-machine.result c.over_tiers-machine.ensures.opens.opening

pub drive-drove-requires-clause-few : goal.drive-drove-requires-clause-few
drive-drove-requires-clause-few g c =
    let first = first_version c.over_tiers-machine.result c.over_tiers-machine.ensures.opens.opening in
    rw first (omega arith)

pub returns-clause-changed : goal.returns-clause-changed
returns-clause-changed g c = rw c.status_of_drive.ensures (drive_no_change c.drive-drove.result)

pub returns-clause-write_fault : goal.returns-clause-write_fault
returns-clause-write_fault g c = rw c.status_of_drive.ensures (drive_write_fault c.drive-drove.result _ c.drive-drove.ensures.write_fault)

pub returns-clause-ends : goal.returns-clause-ends
returns-clause-ends g c = λ name before named.
    let m = c.over_tiers-machine.result in
    let new = c.drive-drove.new in
    let play = c.args.play.now in
    let mesh = c.args.opened.mesh in
    let told = file_bytes (g.S.Store.files c.args.store.now) c.args.opened.file in
    let ready = c.requires.ready in
    let opens = c.over_tiers-machine.ensures.opens in
    let world = play_world mesh.lists told play in
    let same : world_of m ≡ world = world_opened mesh c.args.opened.file told m (states_of c.args.opened.tiers.items) play.budgets play.width opens c.over_tiers-machine.ensures.tiers ready.of_words.world.some_tier ready.opened in
    let safely : OpensSafely (world_of m) (run_state m) = record {
      world = opens.world;
      holds = opens.holds;
      opens = opens.opening;
      safe = opens.safe;
      accepted = subst (λ (w : World). IfSome w.bodies (λ (bodies : List BodyLists). IsAccepted (told_file w bodies) w.mesh.root)) (sym same) (accepted_or_not told mesh.lists play ready.of_words);
    } in
    let source : SourceSeen = record { rest = g.I.Source.rest c.args.source.now; faults = g.I.Source.faults c.args.source.now } in
    let now : SourceSeen = record { rest = g.I.Source.rest new.source; faults = g.I.Source.faults new.source } in
    let written = g.O.Sink.written c.args.sink.now in
    let after = g.O.Sink.written new.sink in
    let lives : LivesOver (world_of m) (drive_status c.drive-drove.result) source now written after =
    drove_lives (world_of m) (run_state m) safely (run_state new.machine) source now written after c.drive-drove.result c.drive-drove.ensures.drove c.drive-drove.ensures.stops c.drive-drove.ensures.read_fault in
    let here = subst (λ (w : World). LivesOver w (drive_status c.drive-drove.result) source now written after) same lives in
    inr (record {
      world = world;
      of_words = subst (λ (t : Option (List ℕ)). IsWorldOf play t world) (sym named) ready.of_words;
      holds = ready.holds;
      lives = rw c.status_of_drive.ensures here;
    })

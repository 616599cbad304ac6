-- What ran is what the machine played, from its opening on.
use Rattle.std.proofs.Common.{◌≡◌, ◌<◌, ◌^◌, List, None, ◌⊎◌, sym, ap, subst, ◌∙◌, arith}
use Rattle.std.specs.Prelude.{IfSome}
use Rattle.file_model.specs.Lists.{BodyLists}
use Rattle.mesh_model.specs.Accepted.{IsAccepted}
use Rattle.view_outside.specs.Files.{file_bytes}
use Rattle.cache_chain.specs.ChainStates.{states_of}
use Rattle.run_laws.specs.PrintedFrames.{told_file}
use Rattle.run_model.specs.Worlds.{World}
use Rattle.view_machine.specs.LineCounts.{TellsBodies}
use Rattle.view_machine.specs.Machines.{world_of, run_state}
use Rattle.view_machine.specs.Openings.{world_opened}
use Rattle.viewer_program.specs.PlayRuns.{play_world}
use Rattle.viewer_program.specs.PlayEnds.{RunEnds, counts_of}
use Rattle.viewer_program.specs.Refusals.{run_status}
use Rattle.viewer_program.specs.Promises.{OpensSafely}
use Rattle.viewer_program.proofs.PlayLemmas.{tells_or_not, accepted_or_not}
use Rattle.viewer_program.proofs.RunLemmas.{played_ends, no_seats, first_version, many_tiers}
use Rattle.viewer_program.proofs.playing.run_script.Goals as goal

pub play-ran-requires-clause-closed : goal.play-ran-requires-clause-closed
play-ran-requires-clause-closed g c = no_seats c.over_tiers-machine.result c.over_tiers-machine.ensures.opens.opening

pub play-ran-requires-clause-few : goal.play-ran-requires-clause-few
play-ran-requires-clause-few g c =
    let first = first_version c.over_tiers-machine.result c.over_tiers-machine.ensures.opens.opening in
    rw first (omega arith)

pub play-ran-requires-clause-tiers : goal.play-ran-requires-clause-tiers
play-ran-requires-clause-tiers g c =
    let same = world_opened c.args.mesh.now c.args.file (file_bytes (g.S.Store.files c.args.store.now) c.args.file) c.over_tiers-machine.result (states_of c.args.tiers.items) c.args.play.now.budgets c.args.play.now.width c.over_tiers-machine.ensures.opens c.over_tiers-machine.ensures.tiers c.requires.world.world.some_tier c.requires.opened in
    c.requires.lines ∙ sym (many_tiers c.over_tiers-machine.result c.args.play.now.budgets (ap (λ (w : World). w.budgets) same))

pub returns-clause-ends : goal.returns-clause-ends
returns-clause-ends g c = λ faults taken first later took.
    let m = c.over_tiers-machine.result in
    let told = file_bytes (g.S.Store.files c.args.store.now) c.args.file in
    let world = play_world c.args.mesh.now.lists told c.args.play.now in
    let same : world_of m ≡ world = world_opened c.args.mesh.now c.args.file told m (states_of c.args.tiers.items) c.args.play.now.budgets c.args.play.now.width c.over_tiers-machine.ensures.opens c.over_tiers-machine.ensures.tiers c.requires.world.world.some_tier c.requires.opened in
    let tells : ((world_of m).bodies ≡ None) ⊎ TellsBodies (world_of m) = subst (λ (w : World). (w.bodies ≡ None) ⊎ TellsBodies w) (sym same) (tells_or_not told c.args.mesh.now.lists c.args.play.now c.requires.world) in
    let opens = c.over_tiers-machine.ensures.opens in
    let safely : OpensSafely (world_of m) (run_state m) = record {
      world = opens.world;
      holds = opens.holds;
      opens = opens.opening;
      safe = opens.safe;
      accepted = subst (λ (w : World). IfSome w.bodies (λ (bodies : List BodyLists). IsAccepted (told_file w bodies) w.mesh.root)) (sym same) (accepted_or_not told c.args.mesh.now.lists c.args.play.now c.requires.world);
    } in
    let counts = counts_of faults (g.S.Store.faults c.play-ran.new.self.chain.store) taken (g.S.Store.taken c.play-ran.new.self.chain.store) in
    let ends : RunEnds (world_of m) c.args.script.now.lines first counts (run_status c.play-ran.result) (g.O.Sink.written c.args.sink.now) (g.O.Sink.written c.play-ran.new.sink) =
    played_ends (world_of m) (run_state m) (run_state c.play-ran.new.self) counts (g.S.Store.faults m.chain.store) (g.S.Store.taken m.chain.store) first _ _ c.args.script.now.lines c.play-ran.result (g.O.Sink.written c.args.sink.now) (g.O.Sink.written c.play-ran.new.sink)
    opens.opening tells safely (rw c.over_tiers-machine.ensures.store later) (rw c.over_tiers-machine.ensures.store took) c.play-ran.ensures.ran c.play-ran.ensures.stops in
    let here = subst (λ (w : World). RunEnds w c.args.script.now.lines first counts (run_status c.play-ran.result) (g.O.Sink.written c.args.sink.now) (g.O.Sink.written c.play-ran.new.sink)) same ends in
    rw (c.status_of_run.ensures, c.store-1.given.1 (sym (c.into_store.ensures.lender ∙ c.play-ran.ensures.place.lender ∙ c.over_tiers-machine.ensures.lender)), c.into_store.ensures.store) here

-- A script that was read is run.
use Rattle.std.proofs.Common.{ℕ, ◌+◌, List, Option, refl, sym, subst, arith}
use Rattle.file_model.specs.Reading.{file_size}
use Rattle.view_outside.specs.Files.{file_bytes}
use Rattle.cache_chain.specs.Refusals.{base_size}
use Rattle.script_model.specs.Scripts.{AreLines}
use Rattle.view_script.specs.ScriptSeen.{ScriptSeen}
use Rattle.viewer_program.specs.Outside.{outside_with, outside_seen}
use Rattle.viewer_program.specs.PlayRuns.{play_world, IsWorldOf, IsSetUp}
use Rattle.viewer_program.proofs.PlayLemmas.{run_ends, run_no_change, script_ends}
use Rattle.viewer_program.proofs.playing.play_opened.Goals as goal

pub returns-in-Ok-clause-ends : goal.returns-in-Ok-clause-ends
returns-in-Ok-clause-ends g c = λ name before told gave.
    let lists = c.args.opened.mesh.lists in
    let world = play_world lists (file_bytes (g.S.Store.files c.args.store.now) c.args.opened.file) c.args.play.now in
    let lines = c.in-Ok.script.lines in
    let rules : AreLines c.in-Ok.script.mode c.in-Ok.script.tiers lines = subst (λ (s : ScriptSeen). AreLines s.mode s.tiers s.lines) c.script.view_is c.script.invariant in
    let set_up : IsSetUp c.args.play.now (file_bytes (g.S.Store.files c.args.store.now) c.args.opened.file) (g.I.Source.rest c.args.source.now) world lines = record {
      world = c.requires.ready.of_words;
      holds = c.requires.ready.holds;
      script = record {
        rules = rw (c.in-Ok.ensures.mode, c.in-Ok.ensures.tiers, c.budgets.ensures.value) at rules;
        said = rw c.budgets.ensures.value at c.in-Ok.ensures.exact;
      };
    } in
    run_ends c.args.play.now name
    (outside_with before (g.I.Source.rest c.args.source.now) (g.I.Source.faults c.args.source.now) (g.O.Sink.written c.args.sink.now) (g.O.Sink.faults c.args.sink.now))
    (outside_seen (g.S.Store.files c.run_script.new.store) (g.S.Store.faults c.run_script.new.store) (g.S.Store.taken c.run_script.new.store) (g.I.Source.rest c.read_script.new.source) (g.I.Source.faults c.read_script.new.source) (g.O.Sink.written c.run_script.new.sink) (g.O.Sink.faults c.run_script.new.sink))
    world lines c.run_script.result
    (subst (λ (t : Option (List ℕ)). IsSetUp c.args.play.now t (g.I.Source.rest c.args.source.now) world lines) (sym told) set_up) c.in-Ok.ensures.through
    (c.run_script.ensures.ends before.faults before.taken (file_size lists.index + base_size lists) gave.later gave.taken)

pub returns-in-Ok-clause-changed : goal.returns-in-Ok-clause-changed
returns-in-Ok-clause-changed g c =
    run_no_change _ _ 0 _ _ _ c.run_script.result (c.run_script.ensures.ends 0 (g.S.Store.taken c.args.store.now) 0 (omega arith) (omega arith))

pub returns-clause-ends : goal.returns-clause-ends
returns-clause-ends g c = λ name before told gave.
    let world = play_world c.args.opened.mesh.lists (file_bytes (g.S.Store.files c.args.store.now) c.args.opened.file) c.args.play.now in
    rw c.status_of_script.ensures (script_ends c.args.play.now name
    (outside_with before (g.I.Source.rest c.args.source.now) (g.I.Source.faults c.args.source.now) (g.O.Sink.written c.args.sink.now) (g.O.Sink.faults c.args.sink.now))
    (outside_seen (g.S.Store.files c.args.store.now) (g.S.Store.faults c.args.store.now) (g.S.Store.taken c.args.store.now) (g.I.Source.rest c.read_script.new.source) (g.I.Source.faults c.read_script.new.source) (g.O.Sink.written c.args.sink.now) (g.O.Sink.faults c.args.sink.now))
    c.in-Err.refusal
    (record {
      can = record {
        world = world;
        of_words = subst (λ (t : Option (List ℕ)). IsWorldOf c.args.play.now t world) (sym told) c.requires.ready.of_words;
        holds = c.requires.ready.holds;
      };
      taken = gave.taken;
    })
    (rw c.budgets.ensures.value at c.in-Err.ensures.exact) c.in-Err.ensures.through c.in-Err.ensures.cause refl)

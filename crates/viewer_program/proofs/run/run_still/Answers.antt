-- The words are those of a command over a file, of a play, of a driver's run, or of none of these.
use Rattle.std.proofs.Common.{refl, sym, map}
use Rattle.std.specs.Prelude.{string_bytes}
use Rattle.viewer_program.specs.Outside.{OutsideSeen, outside_seen}
use Rattle.viewer_program.specs.StillEnds.{CommandEnds}
use Rattle.viewer_program.proofs.StillLemmas.{command_still, play_still, live_still, strip_still}
use Rattle.viewer_program.proofs.run.run_still.Goals as goal

pub returns-in-Some : goal.returns-in-Some
returns-in-Some g c =
    let before : OutsideSeen = outside_seen (g.S.Store.files c.args.store.now) (g.S.Store.faults c.args.store.now) (g.S.Store.taken c.args.store.now) (g.I.Source.rest c.args.script.now) (g.I.Source.faults c.args.script.now) (g.O.Sink.written c.args.sink.now) (g.O.Sink.faults c.args.sink.now) in
    let after : OutsideSeen = outside_seen (g.S.Store.files c.run_command.new.store) (g.S.Store.faults c.run_command.new.store) (g.S.Store.taken c.run_command.new.store) (g.I.Source.rest c.args.script.now) (g.I.Source.faults c.args.script.now) (g.O.Sink.written c.run_command.new.sink) (g.O.Sink.faults c.run_command.new.sink) in
    let ends : CommandEnds c.in-Some.command c.file_name.result.now before after c.run_command.result = record {
      told = c.run_command.ensures.told;
      kinds = c.run_command.ensures.statuses;
      quiet = c.run_command.ensures.quiet;
      read_fault = c.run_command.ensures.read_fault;
      missing = c.run_command.ensures.missing;
      wide = c.run_command.ensures.wide;
    } in
    command_still (map string_bytes c.args.words.now) before after c.run_command.result c.in-Some.command (sym c.in-Some.ensures.value)
    (rw c.file_name.ensures at ends) c.run_command.ensures.command refl c.run_command.ensures.changed c.run_command.ensures.write_fault

pub returns-in-Some-play_of : goal.returns-in-Some-play_of
returns-in-Some-play_of g c =
    let before : OutsideSeen = outside_seen (g.S.Store.files c.args.store.now) (g.S.Store.faults c.args.store.now) (g.S.Store.taken c.args.store.now) (g.I.Source.rest c.args.script.now) (g.I.Source.faults c.args.script.now) (g.O.Sink.written c.args.sink.now) (g.O.Sink.faults c.args.sink.now) in
    let after : OutsideSeen = outside_seen (g.S.Store.files c.run_play.new.store) (g.S.Store.faults c.run_play.new.store) (g.S.Store.taken c.run_play.new.store) (g.I.Source.rest c.run_play.new.source) (g.I.Source.faults c.run_play.new.source) (g.O.Sink.written c.run_play.new.sink) (g.O.Sink.faults c.run_play.new.sink) in
    play_still (map string_bytes c.args.words.now) before after c.run_play.result c.in-Some-play_of.play (sym c.in-None.ensures.value) (sym c.in-Some-play_of.ensures)
    (rw c.file_name-in-Some-play_of.ensures at c.run_play.ensures.ends) (rw c.file_name-in-Some-play_of.ensures at c.run_play.ensures.missing) c.run_play.ensures.reads c.run_play.ensures.changed c.run_play.ensures.write_fault

pub returns-in-Some-live_of : goal.returns-in-Some-live_of
returns-in-Some-live_of g c =
    let before : OutsideSeen = outside_seen (g.S.Store.files c.args.store.now) (g.S.Store.faults c.args.store.now) (g.S.Store.taken c.args.store.now) (g.I.Source.rest c.args.script.now) (g.I.Source.faults c.args.script.now) (g.O.Sink.written c.args.sink.now) (g.O.Sink.faults c.args.sink.now) in
    let after : OutsideSeen = outside_seen (g.S.Store.files c.run_live.new.store) (g.S.Store.faults c.run_live.new.store) (g.S.Store.taken c.run_live.new.store) (g.I.Source.rest c.run_live.new.source) (g.I.Source.faults c.run_live.new.source) (g.O.Sink.written c.run_live.new.sink) (g.O.Sink.faults c.run_live.new.sink) in
    live_still (map string_bytes c.args.words.now) before after c.run_live.result c.in-Some-live_of.play (sym c.in-None.ensures.value) (sym c.in-None-play_of.ensures) (sym c.in-Some-live_of.ensures)
    (rw c.file_name-in-Some-live_of.ensures at c.run_live.ensures.ends) (rw c.file_name-in-Some-live_of.ensures at c.run_live.ensures.missing) c.run_live.ensures.changed c.run_live.ensures.write_fault

pub returns-in-None-live_of : goal.returns-in-None-live_of
returns-in-None-live_of g c =
    let before : OutsideSeen = outside_seen (g.S.Store.files c.args.store.now) (g.S.Store.faults c.args.store.now) (g.S.Store.taken c.args.store.now) (g.I.Source.rest c.args.script.now) (g.I.Source.faults c.args.script.now) (g.O.Sink.written c.args.sink.now) (g.O.Sink.faults c.args.sink.now) in
    let after : OutsideSeen = outside_seen (g.S.Store.files c.args.store.now) (g.S.Store.faults c.args.store.now) (g.S.Store.taken c.args.store.now) (g.I.Source.rest c.args.script.now) (g.I.Source.faults c.args.script.now) (g.O.Sink.written c.run_without_file.new.sink) (g.O.Sink.faults c.run_without_file.new.sink) in
    strip_still (map string_bytes c.args.words.now) before after c.run_without_file.result (sym c.in-None.ensures.value) (sym c.in-None-play_of.ensures) (sym c.in-None-live_of.ensures) c.run_without_file.ensures.usage
    (λ usage.
    let same = c.run_without_file.ensures.idle usage in
    λ i. outside_seen (g.S.Store.files c.args.store.now) (g.S.Store.faults c.args.store.now) (g.S.Store.taken c.args.store.now) (g.I.Source.rest c.args.script.now) (g.I.Source.faults c.args.script.now) (same.0 i) (same.1 i))
    c.run_without_file.ensures.makes c.run_without_file.ensures.quiet refl refl c.run_without_file.ensures.changed c.run_without_file.ensures.write_fault

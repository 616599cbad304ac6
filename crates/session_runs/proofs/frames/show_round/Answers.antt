use Rattle.std.proofs.Common.{ℕ, List, map, refl, sym, ap, subst, ◌∙◌}
use Rattle.std.specs.Arc.{arc_value}
use Rattle.std.proofs.lemmas.Option.{same_Some}
use Rattle.std.proofs.lemmas.Result.{on_ok_weaker}
use Rattle.round_model.specs.Refiners.{cut_patches}
use Rattle.frame_writer.specs.Frames.{AreBodiesOf}
use Rattle.session_runs.specs.SetupWorlds.{round_shared, collected_named, shows_next, all_added}
use Rattle.session_runs.proofs.frames.show_round.Goals as goal

pub collect-seat-requires-clause-patches : goal.collect-seat-requires-clause-patches
collect-seat-requires-clause-patches g c =
    round_shared c.args.table.now g.N.Naming.setup c.args.seat c.args.session.now c.in-Some.round.now
    c.patches-patches.result.now c.requires.pass c.number-number.ensures.facts c.requires.mesh c.in-Some.ensures
    c.patches-patches.ensures.patches

pub write_round-requires-clause-bodies : goal.write_round-requires-clause-bodies
write_round-requires-clause-bodies g c = λ r there.
    let patches = c.patches-patches.result.now in
    let bodies = map arc_value c.as_slice.result.now in
    let collected = c.collect-seat.new.bodies in
    let adds = all_added c.in-Ok-collected.field-0 c.collect-seat.result.1 g.N.Naming.setup patches
    c.in-Ok.bodies collected c.in-Ok-collected.is c.collect-seat.ensures.bodies in
    subst (λ (ps : List ℕ). AreBodiesOf ps bodies)
    (c.patches-patches.ensures.patches
    ∙ ap cut_patches (same_Some c.in-Some.round.now r (sym c.in-Some.ensures ∙ there)))
    (subst (AreBodiesOf patches) (sym c.as_slice.ensures)
    (collected_named g.N.Naming.setup patches c.in-Ok.bodies collected c.in-Ok.ensures.empty adds))

pub returns-in-Ok-collected-clause-shows : goal.returns-in-Ok-collected-clause-shows
returns-in-Ok-collected-clause-shows g c =
    let patches = c.patches-patches.result.now in
    let collected = c.collect-seat.new.bodies in
    let adds = all_added c.in-Ok-collected.field-0 c.collect-seat.result.1 g.N.Naming.setup patches
    c.in-Ok.bodies collected c.in-Ok-collected.is c.collect-seat.ensures.bodies in
    on_ok_weaker c.write_round.result
    (λ written.
    shows_next c.args.table.now g.N.Naming.setup c.args.seat c.args.session.now c.args.session.now.number
    c.in-Some.round.now patches (map arc_value c.as_slice.result.now) c.in-Ok.bodies collected c.args.out.now.items
    c.write_round.new.out.items c.requires.pass c.number-number.ensures.facts c.requires.mesh c.in-Some.ensures
    c.patches-patches.ensures.patches c.in-Ok.ensures.empty adds c.as_slice.ensures refl written)
    c.write_round.ensures.ok

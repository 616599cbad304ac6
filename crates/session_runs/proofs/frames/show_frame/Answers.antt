use Rattle.std.proofs.Common.{◌≡◌, ℕ, Some, sym, subst, ◌∙◌}
use Rattle.std.proofs.lemmas.Result.{on_ok_weaker}
use Rattle.mesh_model.specs.Meshes.{MeshLists}
use Rattle.script_model.specs.declared.orders.Order.TheVariants as orders
use Rattle.token_table.specs.Seats.{SessionSeen as SeatSeen}
use Rattle.shared_sessions.specs.FrameLines.{ShowsNext, few_then}
use Rattle.shared_sessions.specs.LineLaws.{finishes_round, framed_line}
use Rattle.shared_sessions.specs.SessionLines.{ServesLine}
use Rattle.session_runs.specs.SetupWorlds.{setup_world}
use Rattle.session_runs.proofs.frames.show_frame.Goals as goal

pub show_done-requires-clause-few : goal.show_done-requires-clause-few
show_done-requires-clause-few g c =
    let old = c.args.session.now in
    let mid = c.finish_round.new.session in
    let tries = c.args.seat.own.tries in
    let now = c.finish_round.new.seat.own.tries in
    few_then tries now old mid (finishes_round c.in-Ok.field-0 tries now old mid c.in-Ok.ensures.steps) c.requires.few

pub returns-in-Ok-clause-ok : goal.returns-in-Ok-clause-ok
returns-in-Ok-clause-ok g c =
    let old = c.args.session.now in
    let mid = c.finish_round.new.session in
    let new = c.show_done.new.session in
    let table = c.args.table.now in
    let seat = c.args.seat in
    let now = c.finish_round.new.seat in
    let before = c.args.out.now.items in
    let after = c.show_done.new.out.items in
    let finishes = finishes_round c.in-Ok.field-0 seat.own.tries now.own.tries old mid c.in-Ok.ensures.steps in
    let view = c.requires.view in
    let w = λ (mesh : MeshLists). setup_world g.N.Naming.setup mesh in
    let number = c.args.number in
    on_ok_weaker c.show_done.result.1
    (λ shows mesh over.
    let here : mid.mesh ≡ mesh = finishes.ends.mesh ∙ over in
    let Serves : SeatSeen → Type 0 = λ s.
    ServesLine table (w mesh) number (orders.Frame number) seat s (Some old) (Some new) before after in
    subst Serves (sym c.show_done.ensures.seat)
    (framed_line table (w mesh) number seat before after now old new mid view.0 over
    c.requires.number c.requires.rests view.1 finishes
    (subst (λ (m : MeshLists). ShowsNext (w m) number mid.state before after) here
    (subst (λ (n : ℕ). ShowsNext (w mid.mesh) n mid.state before after)
    (finishes.ends.number ∙ c.requires.number) shows.0))
    shows.1 c.show_done.ensures.pass c.show_done.ensures.facts))
    c.show_done.ensures.shows

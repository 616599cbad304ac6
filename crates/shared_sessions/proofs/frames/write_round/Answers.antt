use Rattle.std.proofs.Common.{◌≡◌, ℕ, ◌+◌, map, sym, ap, subst, ◌∙◌}
use Rattle.std.specs.Arc.{arc_value}
use Rattle.std.proofs.lemmas.Option.{same_Some}
use Rattle.std.proofs.lemmas.Result.{on_ok_weaker}
use Rattle.round_model.specs.Refiners.{Refining, cut_of, cut_patches}
use Rattle.frame_writer.specs.Frames.{AddsFrame}
use Rattle.frame_writer.specs.Frames.{frame_of as text_frame}
use Rattle.shared_sessions.specs.FrameLines.{next_frame}
use Rattle.shared_sessions.proofs.frames.write_round.Goals as goal

pub returns-clause-ok : goal.returns-clause-ok
returns-clause-ok c =
    let seen = c.args.session.now in
    let bodies = map arc_value c.args.bodies.now in
    let cut = c.cut.result.now in
    let tries = c.tries.result.now in
    let patches = c.patches-patches.result.now in
    let frame : ℕ = c.frames-frame.result + 1 in
    on_ok_weaker c.frame_text.result
    (λ added r there.
    let same : c.in-Some.round.now ≡ r = same_Some c.in-Some.round.now r (sym c.in-Some.ensures ∙ there) in
    subst (AddsFrame c.args.out.now.items c.frame_text.new.out.items)
    (ap (λ (i : ℕ). text_frame i frame cut tries patches bodies) c.number-number.ensures.value
    ∙ next_frame seen.number seen.state r bodies frame cut tries patches (ap (λ (n : ℕ). n + 1) c.frames-frame.ensures)
    (c.cut.ensures.nodes ∙ ap cut_of same) (c.tries.ensures.value ∙ ap (λ (q : Refining). q.tries) same)
    (c.patches-patches.ensures.patches ∙ ap cut_patches same)) added)
    c.frame_text.ensures.ok

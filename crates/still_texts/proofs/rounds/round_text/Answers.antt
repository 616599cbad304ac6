-- The bodies of a granted round's frame are loaded and printed.
use Rattle.std.proofs.Common.{map, refl, sym, ◌∙◌}
use Rattle.std.specs.Arc.{arc_value}
use Rattle.std.proofs.lemmas.Result.{err_from_is_err_and}
use Rattle.accepted_mesh.specs.MeshView.{IsMeshOf}
use Rattle.still_texts.specs.Full.{want_rules, IsRoundText}
use Rattle.still_texts.proofs.ShownLemmas.{first_text}
use Rattle.still_texts.proofs.RoundLemmas.{IsThrough, round_patches, told_round}
use Rattle.still_texts.proofs.GivenLemmas.{refused_load}
use Rattle.still_texts.proofs.rounds.round_text.Goals as goal

pub load_bodies-requires-clause-patches : goal.load_bodies-requires-clause-patches
load_bodies-requires-clause-patches g c = rw c.index.ensures.value (round_patches (g.W.Want.scores c.args.want.now) (g.W.Want.least c.args.want.now) c.args.limit c.args.mesh.now c.in_ok-round.round c.patches.result.now c.in_ok-round.ensures.rules c.patches.ensures.patches)

pub returns-in_err-bodies-clause-told : goal.returns-in_err-bodies-clause-told
returns-in_err-bodies-clause-told g c =
    let p = err_from_is_err_and c.from_residual-in_err-bodies.result c.from_residual-in_err-bodies.ensures.1 in
    let mesh = c.args.mesh.now in
    let rules = want_rules (g.W.Want.scores c.args.want.now) (g.W.Want.least c.args.want.now) c.args.limit in
    rw (p.1, p.2) (refused_load _ c.in_err-bodies.field-0.0 (λ file. IsRoundText rules file mesh.lists.root) mesh.lists.index _ (λ file. IsMeshOf file mesh) (λ file is. is.index) (rw c.index.ensures.value at c.in_err-bodies.ensures.told))

pub returns-clause-told : goal.returns-clause-told
returns-clause-told g c =
    let round = c.in_ok-round.round in
    let through : IsThrough round = record { whole = c.in_ok-round.ensures.whole; granted = c.in_ok-round.ensures.granted } in
    told_round (g.W.Want.scores c.args.want.now) (g.W.Want.least c.args.want.now) c.args.limit _ c.args.mesh.now round (map arc_value c.in_ok-bodies.bodies.items) _ c.in_ok-round.ensures.rules through (sym c.tries.ensures.value ∙ c.tries.ensures.round)
    (rw (c.index.ensures.value, c.patches.ensures.patches) at c.in_ok-bodies.ensures.told)
    (rw (c.cut.ensures.nodes, c.tries.ensures.value, c.patches-2.ensures.patches, c.deref.ensures.value) at (first_text _ _ _ c.new-text.ensures.items c.in_ok-frame_text.ensures.ok))

pub returns-clause-frame : goal.returns-clause-frame
returns-clause-frame g c = record { frame = _; still = record { session = refl; number = refl }; is = first_text _ _ _ c.new-text.ensures.items c.in_ok-frame_text.ensures.ok }

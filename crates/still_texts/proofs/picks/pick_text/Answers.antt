-- The bodies of a granted round's frame are loaded, and the ray's first hit is told.
use Rattle.std.proofs.Common.{map}
use Rattle.std.specs.Arc.{arc_value}
use Rattle.std.proofs.lemmas.Result.{err_from_is_err_and}
use Rattle.mesh_model.specs.Meshes.{MeshLists}
use Rattle.round_model.specs.Scores.{score_of}
use Rattle.accepted_mesh.specs.MeshView.{IsMeshOf}
use Rattle.still_texts.specs.Picks.{IsPickText}
use Rattle.still_texts.proofs.RoundLemmas.{IsThrough, round_patches}
use Rattle.still_texts.proofs.PickLemmas.{told_pick}
use Rattle.still_texts.proofs.GivenLemmas.{refused_load}
use Rattle.still_texts.proofs.picks.pick_text.Goals as goal

pub load_bodies-requires-clause-patches : goal.load_bodies-requires-clause-patches
load_bodies-requires-clause-patches g c =
    let view = c.args.view.now in
    rw c.index.ensures.value (round_patches (λ (lists : MeshLists). map (score_of view.eye view.focal) lists.index.nodes) view.threshold c.limit.result c.args.mesh.now c.in_ok-round.round c.patches.result.now c.in_ok-round.ensures.rules c.patches.ensures.patches)

pub returns-in_err-bodies-clause-told : goal.returns-in_err-bodies-clause-told
returns-in_err-bodies-clause-told g c =
    let p = err_from_is_err_and c.from_residual-in_err-bodies.result c.from_residual-in_err-bodies.ensures.1 in
    let mesh = c.args.mesh.now in
    rw (p.1, p.2) (refused_load _ c.in_err-bodies.field-0.0 (λ file. IsPickText c.args.view.now c.args.ray.now file mesh.lists.root) mesh.lists.index _ (λ file. IsMeshOf file mesh) (λ file is. is.index) (rw c.index.ensures.value at c.in_err-bodies.ensures.told))

pub returns-clause-told : goal.returns-clause-told
returns-clause-told g c =
    let round = c.in_ok-round.round in
    let through : IsThrough round = record { whole = c.in_ok-round.ensures.whole; granted = c.in_ok-round.ensures.granted } in
    told_pick _ c.args.view.now c.args.ray.now c.args.mesh.now round (map arc_value c.in_ok-bodies.bodies.items) c.pick-found.result _ (rw c.limit.ensures at c.in_ok-round.ensures.rules) through
    (rw (c.index.ensures.value, c.patches.ensures.patches) at c.in_ok-bodies.ensures.told)
    (rw (c.patches-2.ensures.patches, c.deref.ensures.value) at c.pick-found.ensures.picked) c.in_ok-line_of_pick.ensures

use Rattle.std.proofs.Common.{map, refl}
use Rattle.std.specs.Arc.{arc_value}
use Rattle.std.proofs.lemmas.Result.{err_from_is_err_and}
use Rattle.body_loads.specs.PatchLists.{chosen_below, chosen_within}
use Rattle.mesh_model.specs.Graph.{leads_from}
use Rattle.accepted_mesh.specs.MeshView.{IsMeshOf}
use Rattle.still_texts.specs.Shown.{IsBaseText}
use Rattle.still_texts.proofs.ShownLemmas.{first_text, told_base}
use Rattle.still_texts.proofs.GivenLemmas.{refused_load}
use Rattle.still_texts.proofs.bases.base_text.Goals as goal

pub load_bodies-requires-clause-patches : goal.load_bodies-requires-clause-patches
load_bodies-requires-clause-patches g c = rw (c.base.ensures, c.index.ensures.value) (chosen_below (leads_from c.args.mesh.now.lists.root) c.args.mesh.now.lists.index.fields)

pub returns-in_err-bodies-clause-told : goal.returns-in_err-bodies-clause-told
returns-in_err-bodies-clause-told g c =
    let p = err_from_is_err_and c.from_residual.result c.from_residual.ensures.1 in
    let mesh = c.args.mesh.now in
    rw (p.1, p.2) (refused_load _ c.in_err-bodies.field-0.0 (λ file. IsBaseText file mesh.lists.root) mesh.lists.index _ (λ file. IsMeshOf file mesh) (λ file is. is.index) (rw c.index.ensures.value at c.in_err-bodies.ensures.told))

pub frame_text-requires-clause-count : goal.frame_text-requires-clause-count
frame_text-requires-clause-count g c = rw c.base-2.ensures (chosen_within (leads_from c.args.mesh.now.lists.root) c.args.mesh.now.lists.index c.root.ensures.facts.rules)

pub returns-clause-told : goal.returns-clause-told
returns-clause-told g c =
    told_base _ c.args.mesh.now (map arc_value c.in_ok-bodies.bodies.items) _
    (rw (c.index.ensures.value, c.base.ensures) at c.in_ok-bodies.ensures.told)
    (rw (c.root.ensures.value, c.base-2.ensures, c.deref.ensures.value) at (first_text _ _ _ c.new-text.ensures.items c.in_ok-frame_text.ensures.ok))

pub returns-clause-frame : goal.returns-clause-frame
returns-clause-frame g c = record { frame = _; still = record { session = refl; number = refl }; is = first_text _ _ _ c.new-text.ensures.items c.in_ok-frame_text.ensures.ok }

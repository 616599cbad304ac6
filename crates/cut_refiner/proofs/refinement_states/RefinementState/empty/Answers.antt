-- The root can join the set of no nodes.
use Rattle.std.proofs.Common.{◌∙◌, ap, length, replicate, false}
use Rattle.file_model.specs.Lists.{IndexLists}
use Rattle.mesh_model.specs.Meshes.{MeshLists}
use Rattle.cut_refiner.specs.declared.refinement_states.RefinementState.{RefinementState}
use Rattle.cut_refiner.proofs.OrderLaws.{empty_can_join}
use Rattle.cut_refiner.proofs.refinement_states.RefinementState.empty.Goals as goal

pub returns-clause-set : goal.returns-clause-set
returns-clause-set c = c.in_ok-growing.ensures.none ∙ ap (λ (m : MeshLists). replicate (length m.index.nodes) false) c.mesh-mesh.ensures.value

pub returns-clause-root : goal.returns-clause-root
returns-clause-root c =
    let refinement : RefinementState = record { growing = c.in_ok-growing.growing; candidates = c.in_ok-candidates.candidates; next_size = 0 } in
    empty_can_join c.args.rules.now c.mesh-mesh.ensures.facts c.mesh-mesh.result.now.lists refinement c.node_count.result c.mesh-mesh.ensures.value c.in_ok-growing.ensures.none c.in_ok-growing.ensures.growing c.in_ok-candidates.ensures.items
    (c.node_count.ensures.value ∙ ap (λ (i : IndexLists). length i.nodes) c.index.ensures.value) c.in_ok-candidates.ensures.room

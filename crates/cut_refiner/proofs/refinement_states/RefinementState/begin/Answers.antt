-- The root joins the set of no nodes.
use Rattle.std.proofs.Common.{◌≡◌, ◌∙◌, sym, ap, subst}
use Rattle.mesh_model.specs.Meshes.{MeshLists}
use Rattle.round_model.specs.Order.{node_order}
use Rattle.round_model.specs.Rounds.{has, with_member, frame_size}
use Rattle.cut_refiner.specs.RefinementStates.{CanJoin}
use Rattle.cut_refiner.proofs.JoinLaws.{joining_grows}
use Rattle.cut_refiner.proofs.OrderLaws.{root_set_is}
use Rattle.cut_refiner.proofs.refinement_states.RefinementState.begin.Goals as goal

pub size_with-size-requires : goal.size_with-size-requires
size_with-size-requires c =
    let root : c.root-root.result ≡ c.args.rules.now.mesh.root = c.root-root.ensures.value ∙ ap (λ (m : MeshLists). m.root) c.mesh-mesh.ensures.value in
    let can = subst (CanJoin c.args.rules.now (node_order c.args.rules.now) c.in_ok-refinement.refinement) (sym root) c.in_ok-refinement.ensures.root in
    rw c.mesh-mesh.ensures.value (joining_grows c.args.rules.now c.mesh-mesh.ensures.facts (node_order c.args.rules.now) c.in_ok-refinement.refinement c.root-root.result can)

pub join-requires-clause-can : goal.join-requires-clause-can
join-requires-clause-can c =
    let root : c.root-root.result ≡ c.args.rules.now.mesh.root = c.root-root.ensures.value ∙ ap (λ (m : MeshLists). m.root) c.mesh-mesh.ensures.value in
    (node_order c.args.rules.now, subst (CanJoin c.args.rules.now (node_order c.args.rules.now) c.in_ok-refinement.refinement) (sym root) c.in_ok-refinement.ensures.root)

pub join-requires-clause-size : goal.join-requires-clause-size
join-requires-clause-size c =
    c.size_with-size.ensures ∙ ap (λ (m : MeshLists). frame_size (has (with_member c.in_ok-refinement.refinement.growing.in_cut.items c.root-root.result)) m.index.fields) c.mesh-mesh.ensures.value

pub returns-clause-set : goal.returns-clause-set
returns-clause-set c =
    c.join.ensures.set ∙ root_set_is c.args.rules.now c.in_ok-refinement.refinement.growing.in_cut.items c.mesh-mesh.result.now.lists c.root-root.result c.in_ok-refinement.ensures.set c.mesh-mesh.ensures.value c.root-root.ensures.value

pub returns-clause-going : goal.returns-clause-going
returns-clause-going c =
    let root : c.root-root.result ≡ c.args.rules.now.mesh.root = c.root-root.ensures.value ∙ ap (λ (m : MeshLists). m.root) c.mesh-mesh.ensures.value in
    c.join.ensures.going (node_order c.args.rules.now) (subst (CanJoin c.args.rules.now (node_order c.args.rules.now) c.in_ok-refinement.refinement) (sym root) c.in_ok-refinement.ensures.root)

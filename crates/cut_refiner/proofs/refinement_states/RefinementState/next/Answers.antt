-- The first candidate is tried where the limit allows it.
use Rattle.std.proofs.Common.{◌∙◌, ap, arith, ◌∷◌}
use Rattle.std.proofs.lemmas.List.Sorted.{length_permutation}
use Rattle.mesh_model.specs.Meshes.{MeshLists}
use Rattle.round_model.specs.Rounds.{has, with_member, frame_size}
use Rattle.cut_refiner.proofs.RefinementStateLaws.{popped_grows, popped_is_found, popped_is_passed, none_left, limit_tells}
use Rattle.cut_refiner.proofs.refinement_states.RefinementState.next.Goals as goal

pub size_with-size-requires : goal.size_with-size-requires
size_with-size-requires c =
    let left = c.loop-candidate.invariant.left c.requires.0 c.requires.1 in
    rw c.mesh-mesh.ensures.value (popped_grows c.args.rules.now c.mesh-mesh.ensures.facts c.requires.0 c.loop-candidate.self c.pop.new.self c.in-Some.candidate left c.in-Some.ensures.taken c.in-Some.ensures.first c.in-Some.ensures.room)

pub returns-then-allows-clause-next : goal.returns-then-allows-clause-next
returns-then-allows-clause-next c = λ rest going.
    let within = limit_tells c.args.rules.now c.mesh-mesh.result.now.lists c.loop-candidate.self.growing.in_cut.items c.in-Some.candidate.node.0 c.size_with-size.result c.allows.result c.mesh-mesh.ensures.value c.size_with-size.ensures c.allows.ensures ∙ c.if-allows.true in
    popped_is_found c.args.rules.now c.mesh-mesh.ensures.facts rest c.loop-candidate.self c.pop.new.self c.in-Some.candidate (c.loop-candidate.invariant.left rest going) c.in-Some.ensures.taken c.in-Some.ensures.first c.in-Some.ensures.room c.size_with-size.result
    (c.size_with-size.ensures ∙ ap (λ (m : MeshLists). frame_size (has (with_member c.loop-candidate.self.growing.in_cut.items c.in-Some.candidate.node.0)) m.index.fields) c.mesh-mesh.ensures.value) within

pub loop-candidate-smaller : goal.loop-candidate-smaller
loop-candidate-smaller c = omega (arith, length_permutation c.loop-candidate.self.candidates.items (c.in-Some.candidate ∷ c.pop.new.self.items) c.in-Some.ensures.taken)

pub loop-candidate-preserved : goal.loop-candidate-preserved
loop-candidate-preserved c =
    let over = limit_tells c.args.rules.now c.mesh-mesh.result.now.lists c.loop-candidate.self.growing.in_cut.items c.in-Some.candidate.node.0 c.size_with-size.result c.allows.result c.mesh-mesh.ensures.value c.size_with-size.ensures c.allows.ensures ∙ c.if-allows.false in
    record {
      growing = c.loop-candidate.invariant.growing;
      left = λ rest going. popped_is_passed c.args.rules.now c.mesh-mesh.ensures.facts rest c.loop-candidate.self c.pop.new.self c.in-Some.candidate (c.loop-candidate.invariant.left rest going) c.in-Some.ensures.taken c.in-Some.ensures.first c.in-Some.ensures.room over;
    }

pub returns-clause-next : goal.returns-clause-next
returns-clause-next c = λ rest going. none_left c.args.rules.now rest c.loop-candidate.self (c.loop-candidate.invariant.left rest going) c.in_default.ensures.taken

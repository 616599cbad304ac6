-- Each patch that leads from the node is released.
use Rattle.std.proofs.Common.{◌+◌, ◌∙◌, subst, refl, get_or, drop, List, ℕ, arith}
use Rattle.std.proofs.lemmas.List.{drop_more, drop_all}
use Rattle.round_model.specs.Rounds.{with_member}
use Rattle.cut_refiner.proofs.ReleaseLaws.{few_candidates, no_candidate}
use Rattle.cut_refiner.proofs.OrderLaws.{head_is_node}
use Rattle.cut_refiner.proofs.JoinLaws.{IsReleasing, releasing_at_start, is_missed, releases, joined, arc_in_range, arc_read}
use Rattle.cut_refiner.proofs.refinement_states.RefinementState.join.Goals as goal

pub loop-patch-init : goal.loop-patch-init
loop-patch-init c = record {
  set = refl;
  size = c.requires.size;
  releasing = rw (c.outgoing-patch-items.ensures, c.mesh-mesh.ensures.value) (releasing_at_start c.args.rules.now c.mesh-mesh.ensures.facts c.requires.can.0 c.args.self.now c.args.node c.requires.can.1);
  room = c.requires.can.1.going.room;
  waiting = λ rest can. can.going.waiting;
}

pub patch-head-requires : goal.patch-head-requires
patch-head-requires c =
    arc_in_range c.args.rules.now c.mesh-mesh.result.now.lists c.index.result.now c.outgoing-patch-items.result.now c.args.node c.loop-patch.patch-index c.mesh-mesh.ensures.value c.index.ensures.value c.outgoing-patch-items.ensures c.loop-patch-test.true

pub release-requires-clause-node : goal.release-requires-clause-node
release-requires-clause-node c =
    let arc = arc_read c.args.rules.now c.mesh-mesh.result.now.lists c.index.result.now c.outgoing-patch-items.result.now c.args.node c.loop-patch.patch-index c.mesh-mesh.ensures.value c.index.ensures.value c.outgoing-patch-items.ensures c.loop-patch-test.true c.patch-head.result c.patch-head.ensures in
    head_is_node c.args.rules.now c.mesh-mesh.ensures.facts _ c.patch-head.result arc.here

pub release-requires-clause-missed : goal.release-requires-clause-missed
release-requires-clause-missed c =
    let ps = c.outgoing-patch-items.result.now in
    let k = c.loop-patch.patch-index in
    let arc = arc_read c.args.rules.now c.mesh-mesh.result.now.lists c.index.result.now ps c.args.node k c.mesh-mesh.ensures.value c.index.ensures.value c.outgoing-patch-items.ensures c.loop-patch-test.true c.patch-head.result c.patch-head.ensures in
    is_missed c.args.rules.now.mesh (with_member c.args.self.now.growing.in_cut.items c.args.node) (drop k ps) (drop (k + 1) ps) c.loop-patch.self.growing.missing.items (get_or ps k 0) c.patch-head.result c.loop-patch.invariant.releasing (drop_more ps k 0 c.loop-patch-test.true) arc.here
    (head_is_node c.args.rules.now c.mesh-mesh.ensures.facts (get_or ps k 0) c.patch-head.result arc.here)

pub release-requires-clause-room : goal.release-requires-clause-room
release-requires-clause-room c =
    let ps = c.outgoing-patch-items.result.now in
    let k = c.loop-patch.patch-index in
    let arc = arc_read c.args.rules.now c.mesh-mesh.result.now.lists c.index.result.now ps c.args.node k c.mesh-mesh.ensures.value c.index.ensures.value c.outgoing-patch-items.ensures c.loop-patch-test.true c.patch-head.result c.patch-head.ensures in
    let head = head_is_node c.args.rules.now c.mesh-mesh.ensures.facts (get_or ps k 0) c.patch-head.result arc.here in
    let missed = is_missed c.args.rules.now.mesh (with_member c.args.self.now.growing.in_cut.items c.args.node) (drop k ps) (drop (k + 1) ps) c.loop-patch.self.growing.missing.items (get_or ps k 0) c.patch-head.result c.loop-patch.invariant.releasing (drop_more ps k 0 c.loop-patch-test.true) arc.here head in
    let waiting = c.loop-patch.invariant.waiting c.requires.can.0 c.requires.can.1 in
    let fewer = few_candidates c.args.rules.now c.requires.can.0 c.loop-patch.self.growing.missing.items c.requires.can.1.going.gone c.loop-patch.self.candidates.items c.patch-head.result.head waiting c.requires.can.1.going.order head (no_candidate c.args.rules.now c.requires.can.0 c.loop-patch.self.growing.missing.items c.loop-patch.self.candidates.items c.patch-head.result.head waiting missed) in
    omega (arith, fewer, c.loop-patch.invariant.room)

pub loop-patch-preserved : goal.loop-patch-preserved
loop-patch-preserved c =
    let ps = c.outgoing-patch-items.result.now in
    let k = c.loop-patch.patch-index in
    let arc = arc_read c.args.rules.now c.mesh-mesh.result.now.lists c.index.result.now ps c.args.node k c.mesh-mesh.ensures.value c.index.ensures.value c.outgoing-patch-items.ensures c.loop-patch-test.true c.patch-head.result c.patch-head.ensures in
    let head = head_is_node c.args.rules.now c.mesh-mesh.ensures.facts (get_or ps k 0) c.patch-head.result arc.here in
    record {
      set = c.release.ensures.set ∙ c.loop-patch.invariant.set;
      size = c.release.ensures.size ∙ c.loop-patch.invariant.size;
      releasing = rw c.release.ensures.missing (releases c.args.rules.now.mesh (with_member c.args.self.now.growing.in_cut.items c.args.node) (drop k ps) (drop (k + 1) ps) c.loop-patch.self.growing.missing.items (get_or ps k 0) c.patch-head.result c.loop-patch.invariant.releasing (drop_more ps k 0 c.loop-patch-test.true) arc.here head);
      room = omega (arith, c.release.ensures.room, c.loop-patch.invariant.room);
      waiting = λ rest can. c.release.ensures.waiting rest (c.loop-patch.invariant.waiting rest can) (can.children (get_or ps k 0) c.patch-head.result arc.here arc.tail);
    }

pub returns-clause-going : goal.returns-clause-going
returns-clause-going c = λ rest can.
    let ps = c.outgoing-patch-items.result.now in
    let releasing = subst (λ (left : List ℕ). IsReleasing c.args.rules.now.mesh (with_member c.args.self.now.growing.in_cut.items c.args.node) left c.loop-patch.self.growing.missing.items) (drop_all c.loop-patch.patch-index ps c.loop-patch-test.false) c.loop-patch.invariant.releasing in
    joined c.args.rules.now c.mesh-mesh.ensures.facts rest c.args.self.now c.loop-patch.self c.args.node can c.loop-patch.invariant.set c.loop-patch.invariant.size releasing (c.loop-patch.invariant.waiting rest can) c.loop-patch.invariant.room

-- The round stands at the first node that is tried by the root's set.
use Rattle.std.proofs.Common.{ℕ, ◌<◌, ◌≤◌, ◌∙◌, sym, ap, subst, length, List, arith}
use Rattle.file_model.specs.declared.fields.Try.{Try}
use Rattle.file_model.specs.Lists.{IndexLists}
use Rattle.mesh_model.specs.Graph.{outgoing}
use Rattle.mesh_model.specs.Meshes.{MeshLists}
use Rattle.round_model.specs.Order.{node_order}
use Rattle.cut_refiner.specs.CutLists.{HaveRoom}
use Rattle.cut_refiner.specs.Refiners.{IsAt}
use Rattle.cut_refiner.proofs.LockLaws.{first_none}
use Rattle.cut_refiner.proofs.TellLaws.{at_start}
use Rattle.cut_refiner.proofs.refiners.Refiner.begin.Goals as goal

pub go_on-hand-requires-clause-lists : goal.go_on-hand-requires-clause-lists
go_on-hand-requires-clause-lists g c =
    let index = c.index-index.ensures.value ∙ ap (λ (m : MeshLists). m.index) c.mesh.ensures.value in
    let nodes = c.node_count.ensures.value ∙ ap (λ (i : IndexLists). length i.nodes) index in
    let patches = c.patch_count-2.ensures.value ∙ ap (λ (i : IndexLists). length i.fields) index in
    subst (λ n. HaveRoom n (length c.in_ok-rules.rules.mesh.index.fields) c.in_ok-lists.lists) nodes
    (subst (λ p. HaveRoom c.node_count.result p c.in_ok-lists.lists) patches c.in_ok-lists.ensures)

pub invariant_of-result : goal.invariant_of-result
invariant_of-result g c =
    let index = c.index-index.ensures.value ∙ ap (λ (m : MeshLists). m.index) c.mesh.ensures.value in
    let patches = c.patch_count.ensures.value ∙ ap (λ (i : IndexLists). length i.fields) index in
    record {
      are = c.mesh.ensures.facts;
      at = subst (λ (ts : List Try). IsAt c.in_ok-rules.rules ts c.go_on-hand.new.refinement (length c.in_ok-locks.locks.locked) c.go_on-hand.result) (sym c.in_ok-tries.ensures.items)
          (at_start c.in_ok-rules.rules c.in_ok-refinement.refinement c.go_on-hand.new.refinement (length c.in_ok-locks.locks.locked) c.go_on-hand.result (ap length c.in_ok-locks.ensures.locked) c.in_ok-refinement.ensures.set c.in_ok-refinement.ensures.going c.go_on-hand.ensures.growing (c.go_on-hand.ensures.next (node_order c.in_ok-rules.rules) c.in_ok-refinement.ensures.going));
      room = omega (arith, patches, c.in_ok-tries.ensures.exact);
      are_lists = c.go_on-hand.ensures.lists;
      are_first = first_none c.in_ok-rules.rules c.in_ok-locks.locks.locked c.go_on-hand.result c.in_ok-locks.ensures.locked;
      for_each = subst (λ (mesh : MeshLists). (v : ℕ) → v < length mesh.index.nodes → length (outgoing mesh.index.fields v) ≤ c.in_ok-locks.locks.room) c.mesh-2.ensures.value
          (λ v node. omega (arith, c.greatest_degree.ensures.most v node, c.in_ok-locks.ensures.room));
    }

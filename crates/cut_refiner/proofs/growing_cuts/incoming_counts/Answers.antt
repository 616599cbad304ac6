use Rattle.std.proofs.Common.{ap, length, arith}
use Rattle.std.proofs.lemmas.List.{length_push}
use Rattle.file_model.specs.Lists.{IndexLists}
use Rattle.mesh_model.specs.Graph.{leads_to, incoming}
use Rattle.mesh_model.specs.Chosen.{chosen_few}
use Rattle.cut_refiner.proofs.GrowingCutLaws.{few_fields, counted_more}
use Rattle.cut_refiner.proofs.growing_cuts.incoming_counts.Goals as goal

pub overflow_cast-incoming : goal.overflow_cast-incoming
overflow_cast-incoming c =
    omega (arith, ap length c.incoming.ensures, chosen_few (leads_to c.loop-node.node) c.args.mesh.now.lists.index.fields, few_fields c.args.mesh.now.lists c.index.ensures.facts)

pub push_reserved-requires : goal.push_reserved-requires
push_reserved-requires c = omega (arith, c.loop-node.counts.ok.0, c.loop-node.invariant.as_many, c.loop-node.invariant.room, c.loop-node-test.true)

pub loop-node-preserved : goal.loop-node-preserved
loop-node-preserved c =
    rw c.push_reserved.ensures.items
    (record {
      as_many = omega (arith, length_push c.loop-node.counts.items (length c.incoming.result.now), c.loop-node.invariant.as_many);
      room = omega (arith, c.push_reserved.ensures.capacity, c.loop-node.invariant.room);
      each = counted_more c.loop-node.counts.items c.loop-node.node (length c.incoming.result.now) (λ v. length (incoming c.args.mesh.now.lists.index.fields v)) c.loop-node.invariant.as_many c.loop-node.invariant.each (ap length c.incoming.ensures);
    })

pub returns : goal.returns
returns c =
    let index = ap (λ (i : IndexLists). length i.nodes) c.index.ensures.value in
    let end = c.node_count-nodes.ensures.value in
    record {
      as_many = omega (arith, index, end, c.loop-node.invariant.as_many);
      each = λ v node. c.loop-node.invariant.each v (omega (arith, index, end, node));
    }

-- A node of the set is added.
use Rattle.std.proofs.Common.{◌∙◌, sym, arith, false, refl, length, ap}
use Rattle.std.proofs.lemmas.Option.{unwrap_or-slice_get}
use Rattle.round_model.specs.Rounds.{has}
use Rattle.cut_refiner.proofs.ListingLaws.{added, left_out, nodes_more, no_nodes}
use Rattle.cut_refiner.proofs.cut_lists.list_nodes.Goals as goal
use Rattle.cut_refiner.proofs.cut_lists.list_nodes.Goals.{then-is_in, else-is_in}

pub loop-node-init : goal.loop-node-init
loop-node-init c = record {
  items = c.requires.empty ∙ sym (no_nodes (has c.args.in_cut.now));
  few = omega (arith, c.args.nodes.now.ok.0, ap length c.requires.empty);
  room = c.requires.room;
}

pub loop-node-preserved : goal.loop-node-preserved
loop-node-preserved c =
    let v = c.loop-node.node in
    let set = c.args.in_cut.now in
    elim c.if-is_in.branch [
      | then-is_in w ↦ rw w.nodes-is (record {
        items = nodes_more (has set) v c.loop-node.nodes.items _ c.loop-node.invariant.items (added (has set v) v c.loop-node.nodes.items _ (unwrap_or-slice_get set v false ∙ w.if-is_in.true) w.push_reserved.ensures.items);
        few = omega (arith, w.push_reserved.ensures.len);
        room = omega (arith, w.push_reserved.ensures.capacity);
      })
      | else-is_in w ↦ rw w.nodes-is (record {
        items = nodes_more (has set) v c.loop-node.nodes.items c.loop-node.nodes.items c.loop-node.invariant.items (left_out (has set v) v c.loop-node.nodes.items c.loop-node.nodes.items (unwrap_or-slice_get set v false ∙ w.if-is_in.false) refl);
        few = omega arith;
        room = c.loop-node.invariant.room;
      })
    ]

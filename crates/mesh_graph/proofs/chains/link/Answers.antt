use Rattle.std.proofs.Common.{◌≡◌, ◌-◌, Some, None, length, get_or, arith, ◌∙◌, ap}
use Rattle.std.specs.List.{slice_get}
use Rattle.std.proofs.lemmas.List.{length-replicate, length-set}
use Rattle.std.proofs.lemmas.Option.{slice_get-get_or}
use Rattle.file_model.specs.declared.fields.PatchField.{PatchField}
use Rattle.mesh_graph.proofs.ChainLaws.{linked_none, linked_down}
use Rattle.mesh_graph.proofs.chains.link.Goals as goal

abbrev no_field : PatchField
no_field = record { tail = 0; head = 0; points = 0; triangles = 0 }

pub loop-patch-init : goal.loop-patch-init
loop-patch-init c = record {
  linked = rw c.in_ok-first.ensures (linked_none c.args.side c.args.fields.now c.args.nodes c.in_ok-next.next.items);
  nodes = ap length c.in_ok-first.ensures ∙ length-replicate c.args.nodes None;
  patches = ap length c.in_ok-next.ensures ∙ length-replicate (length c.args.fields.now) None;
  here = omega arith;
}

pub index-requires : goal.index-requires
index-requires c =
    let there : slice_get c.args.fields.now (c.loop-patch.patch - 1) ≡ Some (get_or c.args.fields.now (c.loop-patch.patch - 1) no_field) = slice_get-get_or c.args.fields.now (c.loop-patch.patch - 1) no_field (omega arith) in
    omega (arith, c.node_of-node.ensures, c.requires.ends _ _ there)

pub index_mut-requires-in-loop-patch : goal.index_mut-requires-in-loop-patch
index_mut-requires-in-loop-patch c =
    let there : slice_get c.args.fields.now (c.loop-patch.patch - 1) ≡ Some (get_or c.args.fields.now (c.loop-patch.patch - 1) no_field) = slice_get-get_or c.args.fields.now (c.loop-patch.patch - 1) no_field (omega arith) in
    omega (arith, c.node_of-node.ensures, c.requires.ends _ _ there)

pub loop-patch-preserved : goal.loop-patch-preserved
loop-patch-preserved c =
    let there : slice_get c.args.fields.now (c.loop-patch.patch - 1) ≡ Some (get_or c.args.fields.now (c.loop-patch.patch - 1) no_field) = slice_get-get_or c.args.fields.now (c.loop-patch.patch - 1) no_field (omega arith) in
    record {
      linked = linked_down c.args.side c.args.fields.now c.loop-patch.patch _ c.node_of-node.result c.loop-patch.first.items c.loop-patch.next.items c.index.result.now
          c.loop-patch-test.true there c.node_of-node.ensures (omega (arith, c.node_of-node.ensures, c.requires.ends _ _ there)) (omega arith) c.loop-patch.invariant.linked c.index.ensures;
      nodes = length-set c.loop-patch.first.items c.node_of-node.result (Some (c.loop-patch.patch - 1)) ∙ c.loop-patch.invariant.nodes;
      patches = length-set c.loop-patch.next.items (c.loop-patch.patch - 1) c.index.result.now ∙ c.loop-patch.invariant.patches;
      here = omega arith;
    }

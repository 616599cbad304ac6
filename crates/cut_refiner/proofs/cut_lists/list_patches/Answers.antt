-- A patch that leads out of the set is added.
use Rattle.std.proofs.Common.{◌∙◌, sym, ap, arith, length, refl}
use Rattle.file_model.specs.declared.fields.PatchField.{PatchField}
use Rattle.mesh_model.specs.Frames.{leads_out}
use Rattle.round_model.specs.Rounds.{has}
use Rattle.cut_refiner.proofs.ListingLaws.{added, left_out, patches_more, no_patches}
use Rattle.cut_refiner.proofs.cut_lists.list_patches.Goals as goal
use Rattle.cut_refiner.proofs.cut_lists.list_patches.Goals.{then-leads_out, else-leads_out}

pub loop-patch-init : goal.loop-patch-init
loop-patch-init c = record {
  items = c.requires.empty ∙ sym (no_patches (leads_out (has c.args.in_cut.now)));
  few = omega (arith, c.args.patches.now.ok.0, ap length c.requires.empty);
  room = c.requires.room;
}

pub loop-patch-preserved : goal.loop-patch-preserved
loop-patch-preserved c =
    let p = c.loop-patch.patch in
    let none : PatchField = record { tail = 0; head = 0; points = 0; triangles = 0 } in
    let test = leads_out (has c.args.in_cut.now) in
    elim c.if-leads_out.branch [
      | then-leads_out w ↦ rw w.patches-is (record {
        items = patches_more test c.args.fields.now p none c.loop-patch.patches.items _ c.loop-patch-test.true c.loop-patch.invariant.items (added _ p c.loop-patch.patches.items _ (sym c.leads_out.ensures ∙ w.if-leads_out.true) w.push_reserved.ensures.items);
        few = omega (arith, w.push_reserved.ensures.len);
        room = omega (arith, w.push_reserved.ensures.capacity);
      })
      | else-leads_out w ↦ rw w.patches-is (record {
        items = patches_more test c.args.fields.now p none c.loop-patch.patches.items c.loop-patch.patches.items c.loop-patch-test.true c.loop-patch.invariant.items (left_out _ p c.loop-patch.patches.items c.loop-patch.patches.items (sym c.leads_out.ensures ∙ w.if-leads_out.false) refl);
        few = omega arith;
        room = c.loop-patch.invariant.room;
      })
    ]

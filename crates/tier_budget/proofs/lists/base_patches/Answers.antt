-- One more patch is marked, or not.
use Rattle.std.proofs.Common.{◌<◌, List, length, subst, sym, ap, ◌∙◌, false, not}
use Rattle.std.proofs.lemmas.List.{get_or_default}
use Rattle.std.specs.Prelude.{slice_index_or}
use Rattle.file_model.specs.declared.fields.PatchField.{PatchField}
use Rattle.mesh_model.specs.Graph.{is_root}
use Rattle.tier_budget.proofs.IndexWalks.{no_field, mapped_more, base_told, tail_marked}
use Rattle.tier_budget.proofs.lists.base_patches.Goals as goal

pub index-requires : goal.index-requires
index-requires c =
    subst (λ n. (slice_index_or c.fields-field-items.result.now c.loop-field.field-index no_field).tail < n) (sym c.in_ok-has_parent.has_parent.ok.0)
    (tail_marked c.args.index.now c.in_ok-has_parent.has_parent.items c.fields-field-items.result.now c.loop-field.field-index c.in_ok-has_parent.ensures c.patch_count.ensures.rules c.loop-field-test.true c.fields-field-items.ensures)

pub loop-field-preserved : goal.loop-field-preserved
loop-field-preserved c =
    let fields = c.args.index.now.fields in
    let within = subst (λ (fs : List PatchField). c.loop-field.field-index < length fs) c.fields-field-items.ensures c.loop-field-test.true in
    let marked = tail_marked c.args.index.now c.in_ok-has_parent.has_parent.items c.fields-field-items.result.now c.loop-field.field-index c.in_ok-has_parent.ensures c.patch_count.ensures.rules c.loop-field-test.true c.fields-field-items.ensures in
    mapped_more (λ (f : PatchField). is_root fields f.tail) fields c.loop-field.field-index no_field c.loop-field.base.items c.push.new.self.items _ within c.loop-field.invariant c.in_ok-push.ensures.items
    (ap (λ m. not m) (c.index.ensures ∙ get_or_default c.in_ok-has_parent.has_parent.items _ c.index.result.now false marked) ∙ base_told c.args.index.now c.in_ok-has_parent.has_parent.items c.fields-field-items.result.now c.loop-field.field-index c.in_ok-has_parent.ensures c.patch_count.ensures.rules c.loop-field-test.true c.fields-field-items.ensures)

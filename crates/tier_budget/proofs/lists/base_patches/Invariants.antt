-- The base patches before this one are marked.
use Rattle.std.proofs.Common.{◌≡◌, map, take}
use Rattle.file_model.specs.declared.fields.PatchField.{PatchField}
use Rattle.mesh_model.specs.Graph.{is_root}
use Rattle.tier_budget.proofs.lists.base_patches.Given as goal

abbrev pub invariant-loop-field : goal.invariant-loop-field
invariant-loop-field l = l.base.items ≡ map (λ (f : PatchField). is_root l.index.fields f.tail) (take l.field-index l.index.fields)

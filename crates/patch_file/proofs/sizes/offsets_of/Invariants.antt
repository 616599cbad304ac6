use Rattle.std.proofs.Common.{◌≡◌, ◌≤◌, ◌+◌, ◌*◌, take}
use Rattle.file_model.specs.Lists.{bodies_size}
use Rattle.patch_file.specs.Offsets.{HasOffsets}
use Rattle.patch_file.proofs.sizes.offsets_of.Given as goal

abbrev pub invariant-loop-field : goal.invariant-loop-field
invariant-loop-field l = record {
  offsets : HasOffsets l.version l.start (take l.field-index l.fields) l.offsets.items;
  end : l.end ≡ l.start + bodies_size l.version (take l.field-index l.fields);
  short : l.end ≤ l.start + 1179630 * l.field-index;
}

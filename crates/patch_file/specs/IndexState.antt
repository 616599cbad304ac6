-- What an index keeps.
use Rattle.std.specs.Prelude.{◌≡◌, ◌≤◌, ◌^◌}
use Rattle.file_model.specs.Lists.{IndexLists, bodies_offset}
use Rattle.file_model.specs.Rules.{IsIndex}
use Rattle.file_model.specs.Reading.{file_size}
use Rattle.patch_file.specs.Offsets.{HasOffsets}
use Rattle.patch_file.specs.declared.index.Index.TheInside.{Inside}

abbrev pub index_lists : Inside → IndexLists
index_lists index = record { version = index.version; nodes = index.nodes.items; fields = index.fields.items }

-- the rules hold, each body's offset is kept, and the file's length, which is below a tebibyte
pub record IsIndexState (index : Inside) : Type 0 where
  pub rules : IsIndex (index_lists index)
  pub offsets : HasOffsets index.version (bodies_offset (index_lists index)) index.fields.items index.body_offsets.items
  pub length : index.file_length ≡ file_size (index_lists index)
  pub short : index.file_length ≤ 2 ^ 40

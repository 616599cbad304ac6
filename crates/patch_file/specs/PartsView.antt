-- What the parts of a file say, and what they keep.
use Rattle.std.specs.Prelude.{map, All}
use Rattle.file_model.specs.Lists.{FileLists}
use Rattle.patch_file.specs.PartsState.{IsSpelledIn}
use Rattle.patch_file.specs.declared.file_parts.FileParts.TheInside.{Inside}

abbrev pub parts_lists : Inside → FileLists
parts_lists parts = record {
  index = record { version = parts.version; nodes = parts.nodes.items; fields = parts.fields.items };
  bodies = map (λ body. body.lists) parts.bodies.items;
}

-- each body has the version of the parts
abbrev pub AreOfVersion : Inside → Type 0
AreOfVersion parts = All (IsSpelledIn parts.version) parts.bodies.items

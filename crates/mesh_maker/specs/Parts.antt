-- Parts of a file to which nodes or patches are added behind those that stand there.
use Rattle.std.specs.Prelude.{List, ◌++◌}
use Rattle.file_model.specs.declared.fields.Node.{Node}
use Rattle.file_model.specs.Lists.{FileLists}
use Rattle.strip_laws.specs.Strip.{StripPatch, fields_of, bodies_of}

-- more nodes
abbrev pub with_nodes : FileLists → List Node → FileLists
with_nodes parts nodes = record {
  index = record { version = parts.index.version; nodes = parts.index.nodes ++ nodes; fields = parts.index.fields };
  bodies = parts.bodies;
}

-- more patches
abbrev pub with_patches : FileLists → List StripPatch → FileLists
with_patches parts ps = record {
  index = record { version = parts.index.version; nodes = parts.index.nodes; fields = parts.index.fields ++ fields_of ps };
  bodies = parts.bodies ++ bodies_of ps;
}

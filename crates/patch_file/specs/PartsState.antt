-- The parts of a file that is to be written.
use Rattle.std.specs.Prelude.{◌≡◌, ℕ, [], ◌∷◌, ◌++◌}
use Rattle.file_model.specs.declared.fields.Node.{Node}
use Rattle.file_model.specs.declared.fields.PatchField.{PatchField}
use Rattle.file_model.specs.Lists.{BodyLists, FileLists}
use Rattle.file_model.specs.Spelling.{body_text}
use Rattle.file_model.specs.Lists.{SeenBody}

-- no node, no patch and no body
abbrev pub no_parts : ℕ → FileLists
no_parts version = record { index = record { version = version; nodes = []; fields = [] }; bodies = [] }

-- a node more
abbrev pub with_node : FileLists → Node → FileLists
with_node parts node = record {
  index = record { version = parts.index.version; nodes = parts.index.nodes ++ node ∷ []; fields = parts.index.fields };
  bodies = parts.bodies;
}

-- a patch more
abbrev pub with_patch : FileLists → PatchField → BodyLists → FileLists
with_patch parts field body = record {
  index = record {
    version = parts.index.version;
    nodes = parts.index.nodes;
    fields = parts.index.fields ++ field ∷ [];
  };
  bodies = parts.bodies ++ body ∷ [];
}

-- the body's bytes are its spelling in this version
abbrev pub IsSpelledIn : ℕ → SeenBody → Type 0
IsSpelledIn version body = body.bytes ≡ body_text version body.lists

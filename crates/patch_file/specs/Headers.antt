-- What the header says, and what its numbers keep.
use Rattle.std.specs.Prelude.{ℕ, List, ◌++◌, IsTrue}
use Rattle.file_model.specs.Numbers.{number_text}
use Rattle.file_model.specs.Spelling.{magic}
use Rattle.file_model.specs.Reading.{Header}
use Rattle.file_model.specs.Rules.{is_version, is_node_count, is_patch_count}
use Rattle.patch_file.specs.declared.header.Header.{Header as HeaderRead}

abbrev pub header_seen : HeaderRead → Header
header_seen header = record { version = header.version; nodes = header.nodes; patches = header.patches }

-- the rules of a header
pub record IsHeader (header : Header) : Type 0 where
  pub version : IsTrue (is_version header.version)
  pub nodes : IsTrue (is_node_count header.nodes)
  pub patches : IsTrue (is_patch_count header.patches)

-- the bytes of a header with these numbers
abbrev pub header_spelling : ℕ → ℕ → ℕ → List ℕ
header_spelling version nodes patches =
    magic ++ (number_text 2 version ++ (number_text 2 0 ++ (number_text 4 nodes ++ number_text 4 patches)))

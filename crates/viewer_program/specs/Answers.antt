-- What a command answers for a file.
use Rattle.std.specs.Prelude.{◌≡◌, ℕ, List, Ok, Err}
use Rattle.file_model.specs.Lists.{FileLists}
use Rattle.file_model.specs.Reading.{file_in}
use Rattle.file_model.specs.Rules.{IsPatchFile}
use Rattle.file_convert.specs.Converted.{with_version, IsLeastWide}
use Rattle.mesh_model.specs.declared.refusals.Refusal.{Refusal}
use Rattle.mesh_model.specs.declared.refusals.Refusal.TheVariants.{File, Dag}
use Rattle.mesh_model.specs.Accepted.{IsAccepted, IsMeshFault}
use Rattle.text_model.specs.AcceptedText.{IsAcceptedText, IsAcceptedLine}
use Rattle.still_texts.specs.Shown.{IsBaseText, IsStillText}
use Rattle.still_texts.specs.Full.{IsFullText, IsCullText}
use Rattle.still_texts.specs.Sides.{IsSidesText, IsSidesLines}
use Rattle.still_texts.specs.Picks.{IsPickText, IsPickLine}
use Rattle.viewer_program.specs.declared.commands.FileCommand.{FileCommand}
use Rattle.viewer_program.specs.declared.commands.FileCommand.TheVariants.{Base, Check, Full, Convert, Cull, Sides, Pick}

-- the text that a command writes of an accepted file with this root
abbrev pub IsTextOf : FileCommand → FileLists → ℕ → List ℕ → Type 0
IsTextOf Base file root text = IsBaseText file root text
IsTextOf Check file root text = IsAcceptedText file root text
IsTextOf (Full view) file root text = IsFullText view file root text
IsTextOf (Convert version) file root text = IsPatchFile (with_version version file) text
IsTextOf (Cull planes) file root text = IsCullText planes file root text
IsTextOf (Sides plane) file root text = IsSidesText plane file text
IsTextOf (Pick view ray) file root text = IsPickText view ray file root text

-- a text of a file of these bytes, which are an accepted file
pub record IsOfAccepted (is_text : FileLists → ℕ → List ℕ → Type 0) (bytes text : List ℕ) : Type 0 where
  pub file : FileLists
  pub root : ℕ
  pub read : file_in bytes ≡ Ok file
  pub spelling : IsPatchFile file bytes
  pub accepted : IsAccepted file root
  pub is : is_text file root text

-- the refusal is the first fault of a file of these bytes
abbrev pub IsRefusalOf : List ℕ → Refusal → Type 0
IsRefusalOf bytes (File fault) = file_in bytes ≡ Err fault
IsRefusalOf bytes (Dag fault) = (file : FileLists) × (file_in bytes ≡ Ok file) × IsMeshFault file fault

-- the command asks for version 2, and the patch is the least of the file that spreads too wide for it
abbrev pub IsWideFor : FileCommand → FileLists → ℕ → Type 0
IsWideFor (Convert version) file patch = (version ≡ 2) × IsLeastWide file.bodies patch
IsWideFor command file patch = ⊥

-- the bytes are an accepted file with such a patch
pub record IsWideIn (command : FileCommand) (bytes : List ℕ) (patch : ℕ) : Type 0 where
  pub file : FileLists
  pub root : ℕ
  pub read : file_in bytes ≡ Ok file
  pub spelling : IsPatchFile file bytes
  pub accepted : IsAccepted file root
  pub is : IsWideFor command file patch

-- a patch file of this version
pub record IsFileText (version : ℕ) (text : List ℕ) : Type 0 where
  pub file : FileLists
  pub version_is : file.index.version ≡ version
  pub is : IsPatchFile file text

-- a text of the command's kind, of whatever file
abbrev pub IsTextOfKind : FileCommand → List ℕ → Type 0
IsTextOfKind Base text = IsStillText text
IsTextOfKind Check text = IsAcceptedLine text
IsTextOfKind (Full view) text = IsStillText text
IsTextOfKind (Convert version) text = IsFileText version text
IsTextOfKind (Cull planes) text = IsStillText text
IsTextOfKind (Sides plane) text = IsSidesLines text
IsTextOfKind (Pick view ray) text = IsPickLine text

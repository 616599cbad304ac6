-- A file whose bodies are held, and why it can't have another version.
use Rattle.std.specs.Prelude.{◌≡◌, ℕ, List, ◌++◌, length, map, slice_get, Some}
use Rattle.file_model.specs.declared.fields.Node.{Node}
use Rattle.file_model.specs.declared.fields.PatchField.{PatchField}
use Rattle.file_model.specs.Lists.{BodyLists, SeenBody, IndexLists, FileLists}
use Rattle.patch_file.specs.BodyRead.{IsBodyOf}
use Rattle.file_convert.specs.Converted.{IsLeastWide}
use Rattle.file_convert.specs.declared.refusals.ConvertRefusal.{ConvertRefusal}
use Rattle.file_convert.specs.declared.refusals.ConvertRefusal.TheVariants.{Wide, Memory}

abbrev pub lists_of : List SeenBody → List BodyLists
lists_of bodies = map (λ (body : SeenBody). body.lists) bodies

-- what the index and the bodies say together
abbrev pub held_file : IndexLists → List SeenBody → FileLists
held_file index bodies = record { index = index; bodies = lists_of bodies }

-- there is a body of each patch, in order
pub record HoldsBodies (index : IndexLists) (bodies : List SeenBody) : Type 0 where
  pub as_many : length bodies ≡ length index.fields
  pub each : (p : ℕ) (b : SeenBody) → slice_get bodies p ≡ Some b → IsBodyOf index p b

-- parts with more nodes, and with more patches
abbrev pub with_all_nodes : FileLists → List Node → FileLists
with_all_nodes parts nodes = record {
  index = record { version = parts.index.version; nodes = parts.index.nodes ++ nodes; fields = parts.index.fields };
  bodies = parts.bodies;
}

abbrev pub with_all_patches : FileLists → List PatchField → List BodyLists → FileLists
with_all_patches parts fields bodies = record {
  index = record { version = parts.index.version; nodes = parts.index.nodes; fields = parts.index.fields ++ fields };
  bodies = parts.bodies ++ bodies;
}

-- a refusal that names a patch: version 2 was asked for, and the patch is the least that doesn't fit it
abbrev pub RefusesWide : ℕ → List BodyLists → ConvertRefusal → Type 0
RefusesWide version bodies (Wide patch) = (version ≡ 2) × IsLeastWide bodies patch
RefusesWide version bodies Memory = Unit {0}

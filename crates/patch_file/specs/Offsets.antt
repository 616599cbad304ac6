-- Where the bodies of a file begin.
use Rattle.std.specs.Prelude.{◌≡◌, ℕ, ◌+◌, ◌<◌, List, length, take, slice_index}
use Rattle.file_model.specs.declared.fields.PatchField.{PatchField}
use Rattle.file_model.specs.Lists.{bodies_size}

-- each offset is the start and the sizes of the bodies before it
pub record HasOffsets (version start : ℕ) (fields : List PatchField) (offsets : List ℕ) : Type 0 where
  pub count : length offsets ≡ length fields
  pub each : (patch : ℕ) → patch < length fields
      → slice_index offsets patch ≡ start + bodies_size version (take patch fields)

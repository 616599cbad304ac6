-- What a body that was read is.
use Rattle.std.specs.Prelude.{◌≡◌, ℕ, length, slice_get, IfSome, IsTrue}
use Rattle.file_model.specs.Lists.{IndexLists, body_size}
use Rattle.file_model.specs.Rules.{fits_field}
use Rattle.file_model.specs.Lists.{SeenBody}

-- the body is this patch's, and has the version, the numbers and the size that the index gives
pub record IsBodyOf (index : IndexLists) (patch : ℕ) (body : SeenBody) : Type 0 where
  pub number : body.patch ≡ patch
  pub version : body.version ≡ index.version
  pub fits : IfSome (slice_get index.fields patch) (λ field. IsTrue (fits_field field body.lists))
  pub size : IfSome (slice_get index.fields patch) (λ field. length body.bytes ≡ body_size index.version field)

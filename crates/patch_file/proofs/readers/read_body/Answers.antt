use Rattle.std.proofs.Common.{◌≡◌, length, ap, ◌∙◌, arith}
use Rattle.std.specs.Prelude.{slice_get, IsTrue}
use Rattle.file_model.specs.Lists.{body_size}
use Rattle.file_model.specs.Rules.{fits_field}
use Rattle.file_laws.specs.BodyFaults.{body_fault}
use Rattle.patch_file.proofs.BodyUnits.{body_is, if_some_from, if_some_at, has_counts_at}
use Rattle.patch_file.proofs.readers.read_body.Goals as goal

pub from_bytes-requires-clause-counts : goal.from_bytes-requires-clause-counts
from_bytes-requires-clause-counts g c =
    has_counts_at (length c.args.index.now.nodes) c.args.index.now.fields c.args.patch c.patch-field.result c.version-version.ensures.rules.fields c.patch-field.ensures

pub returns-in-Ok-clause-body : goal.returns-in-Ok-clause-body
returns-in-Ok-clause-body g c =
    let index = c.args.index.now in
    let field = c.patch-field.result in
    let read = body_is c.version-version.result c.args.patch field c.body_offset-offset.result c.in_ok-bytes.bytes.items c.in-Ok.body.lists c.in-Ok.ensures.exact in
    let sized : c.body_size.result ≡ body_size index.version field = if_some_at (slice_get index.fields c.args.patch) field (λ f. c.body_size.result ≡ body_size index.version f) c.patch-field.ensures c.body_size.ensures.value in
    let version = c.version-version.ensures.value in
    let whole : length c.in-Ok.body.bytes ≡ body_size index.version field =
    omega (arith, ap length c.in-Ok.ensures.bytes, read.room, sized, c.in_ok-bytes.ensures.short, ap (λ v. body_size v field) version) in
    record {
      number = c.in-Ok.ensures.patch;
      version = c.in-Ok.ensures.version ∙ version;
      fits = if_some_from (slice_get index.fields c.args.patch) field (λ f. IsTrue (fits_field f c.in-Ok.body.lists)) c.patch-field.ensures read.fits;
      size = if_some_from (slice_get index.fields c.args.patch) field (λ f. length c.in-Ok.body.bytes ≡ body_size index.version f) c.patch-field.ensures whole;
    }

pub returns-in-Err-clause-fault : goal.returns-in-Err-clause-fault
returns-in-Err-clause-fault g c = body_fault _ c.args.patch _ _ _ _ c.in-Err.ensures.exact

use Rattle.std.proofs.Common.{sym}
use Rattle.std.proofs.lemmas.Result.{err_from_is_err_and, IfErr-weaker}
use Rattle.file_model.specs.declared.refusals.ReadRefusal.TheVariants.{ReadFault}
use Rattle.view_outside.specs.Files.{file_bytes}
use Rattle.patch_file.specs.Headers.{header_seen}
use Rattle.patch_file.proofs.IndexReading.{OnlyIf-weaker, index_refused, index_gives, index_cut}
use Rattle.patch_file.proofs.readers.read_index.Goals as goal

pub returns-in_err-header-clause-exact : goal.returns-in_err-header-clause-exact
returns-in_err-header-clause-exact g c =
    let p = err_from_is_err_and c.from_residual.result c.from_residual.ensures.1 in
    rw (p.1, p.2) (index_refused c.in_err-header.field-0.0 (file_bytes (g.S.Store.files c.args.store.now) c.args.file) c.in_err-header.ensures.exact)

pub returns-clause-exact : goal.returns-clause-exact
returns-clause-exact g c =
    index_gives (header_seen c.in_ok-header.header) c.read_fields.result (file_bytes (g.S.Store.files c.args.store.now) c.args.file) c.in_ok-header.ensures.exact (rw (sym c.in_ok-header.ensures.store.kept) c.read_fields.ensures.exact)

pub returns-clause-cut : goal.returns-clause-cut
returns-clause-cut g c =
    IfErr-weaker c.read_fields.result _ _ (λ refusal. OnlyIf-weaker ReadFault refusal (index_cut (header_seen c.in_ok-header.header) (file_bytes (g.S.Store.files c.args.store.now) c.args.file) _ _ _ c.in_ok-header.ensures.rules c.in_ok-header.ensures.exact c.in_ok-header.ensures.taken)) c.read_fields.ensures.cut

-- The bodies, and then the file's end.
use Rattle.std.proofs.Common.{◌∙◌}
use Rattle.std.proofs.lemmas.Result.{err_from_is_err_and}
use Rattle.dag_check.proofs.CheckLaws.{file-bodies_refused, file-end_refused, file-whole}
use Rattle.dag_check.proofs.checks.read_rest.Goals as goal

pub returns-in_err-checker-clause-told : goal.returns-in_err-checker-clause-told
returns-in_err-checker-clause-told g c =
    let p = err_from_is_err_and c.from_residual.result c.from_residual.ensures.1 in
    rw (p.1, p.2) (file-bodies_refused _ c.args.index c.in_err-checker.field-0.0 c.requires.told c.in_err-checker.ensures.told)

pub returns-in-Ok-clause-told : goal.returns-in-Ok-clause-told
returns-in-Ok-clause-told g c =
    let same = c.in_ok-checker.ensures.index in
    let ends = rw (c.index.ensures ∙ same, c.in_ok-checker.ensures.store.kept) at c.in-Ok.ensures.exact in
    file-whole _ c.args.index c.in_ok-checker.checker same c.requires.told c.in_ok-checker.ensures.told ends

pub returns-in-Err-clause-told : goal.returns-in-Err-clause-told
returns-in-Err-clause-told g c =
    let ends = rw (c.index.ensures ∙ c.in_ok-checker.ensures.index, c.in_ok-checker.ensures.store.kept) at c.in-Err.ensures.exact in
    file-end_refused _ c.args.index c.in_ok-checker.checker c.in-Err.refusal c.requires.told c.in_ok-checker.ensures.told ends

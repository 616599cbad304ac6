-- The file, and then its mesh.
use Rattle.std.proofs.Common.{sym}
use Rattle.std.proofs.lemmas.Result.{err_from_is_err_and}
use Rattle.dag_check.proofs.CheckLaws.{check-refused, check-faulty, check-accepted}
use Rattle.dag_check.proofs.checks.check.Goals as goal

pub returns-in_err-checker-clause-told : goal.returns-in_err-checker-clause-told
returns-in_err-checker-clause-told g c =
    let p = err_from_is_err_and c.from_residual.result c.from_residual.ensures.1 in
    rw (p.1, p.2) (check-refused _ c.in_err-checker.field-0.0 c.in_err-checker.ensures.told)

pub returns-in_err-finish-clause-told : goal.returns-in_err-finish-clause-told
returns-in_err-finish-clause-told g c =
    let p = err_from_is_err_and c.from_residual-in_err-finish.result c.from_residual-in_err-finish.ensures.1 in
    rw (p.1, p.2) (check-faulty _ c.in_ok-checker.checker c.in_err-finish.field-0.0 c.in_ok-checker.ensures.told c.in_err-finish.ensures.verdict)

pub returns-clause-told : goal.returns-clause-told
returns-clause-told g c =
    check-accepted _ c.in_ok-checker.checker _ c.in_ok-checker.ensures.bytes c.in_ok-checker.ensures.told (λ bodies follows. record {
      index = sym c.in_ok-finish.ensures.index;
      accepted = c.in_ok-finish.ensures.verdict bodies follows;
      facts = c.in_ok-finish.ensures.facts;
      base = c.in_ok-finish.ensures.base bodies follows;
    })

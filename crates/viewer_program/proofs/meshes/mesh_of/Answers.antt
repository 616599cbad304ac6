use Rattle.std.proofs.lemmas.Result.{err_from_is_err_and, IfErr-weaker}
use Rattle.viewer_program.proofs.IndexLemmas.{index_refused, index_cut}
use Rattle.viewer_program.proofs.TakenLemmas.{takes_bodies}
use Rattle.viewer_program.proofs.meshes.mesh_of.Goals as goal

pub returns-in_err-index-clause-told : goal.returns-in_err-index-clause-told
returns-in_err-index-clause-told g c =
    let p = err_from_is_err_and c.from_residual.result c.from_residual.ensures.1 in
    rw (p.1, p.2) (index_refused _ c.in_err-index.field-0.0 c.in_err-index.ensures.exact)

pub returns-in_err-index-clause-cut : goal.returns-in_err-index-clause-cut
returns-in_err-index-clause-cut g c =
    let p = err_from_is_err_and c.from_residual.result c.from_residual.ensures.1 in
    rw (p.1, p.2) (index_cut _ _ _ c.in_err-index.field-0.0 c.in_err-index.ensures.cut)

pub returns-clause-cut : goal.returns-clause-cut
returns-clause-cut g c =
    IfErr-weaker c.check.result _ _ (λ refusal cut is. takes_bodies _ c.in_ok-index.index _ _ _ c.in_ok-index.ensures.exact c.in_ok-index.ensures.taken (cut is)) c.check.ensures.cut

-- Each body is read where the one before it ended, and added.
use Rattle.std.proofs.Common.{◌<◌, refl, ap, ◌∙◌, length, arith}
use Rattle.std.specs.Prelude.{slice_get}
use Rattle.std.proofs.lemmas.Result.{err_from_is_err_and}
use Rattle.dag_check.proofs.ReadLaws.{read-none, read-more, read-refused, read-all, taken-none, taken-more, taken-cut}
use Rattle.dag_check.proofs.checks.read_bodies.Goals as goal

pub loop-patch-init : goal.loop-patch-init
loop-patch-init g c = record {
  files = refl;
  later = omega arith;
  taken = taken-none c.args.index _;
  index = c.in_ok-checker.ensures.index;
  next = c.in_ok-checker.ensures.next;
  told = read-none _ c.args.index c.in_ok-checker.checker c.in_ok-checker.ensures.follows;
}

pub returns-in_err-body-clause-told : goal.returns-in_err-body-clause-told
returns-in_err-body-clause-told g c =
    let p = err_from_is_err_and c.from_residual-in_err-body.result c.from_residual-in_err-body.ensures.1 in
    let below : c.loop-patch.patch < length c.args.index.fields = omega (arith, c.patch_count-patches.ensures.value, c.loop-patch-test.true) in
    let same = c.index.ensures ∙ c.loop-patch.invariant.index in
    rw (p.1, p.2) (read-refused _ c.args.index c.loop-patch.patch c.loop-patch.checker c.in_err-body.field-0.0 below
    (rw (same, c.loop-patch.invariant.files) at c.in_err-body.ensures.exact) c.loop-patch.invariant.told)

pub returns-in_err-body-clause-cut : goal.returns-in_err-body-clause-cut
returns-in_err-body-clause-cut g c =
    let p = err_from_is_err_and c.from_residual-in_err-body.result c.from_residual-in_err-body.ensures.1 in
    let below : c.loop-patch.patch < length c.args.index.fields = omega (arith, c.patch_count-patches.ensures.value, c.loop-patch-test.true) in
    let same = c.index.ensures ∙ c.loop-patch.invariant.index in
    rw (p.1, p.2) (λ is. taken-cut c.args.index c.loop-patch.patch _ _ _ below c.loop-patch.invariant.taken (rw same at (c.in_err-body.ensures.cut is)))

pub loop-patch-preserved : goal.loop-patch-preserved
loop-patch-preserved g c =
    let below : c.loop-patch.patch < length c.args.index.fields = omega (arith, c.patch_count-patches.ensures.value, c.loop-patch-test.true) in
    let same = c.index.ensures ∙ c.loop-patch.invariant.index in
    record {
      files = c.in_ok-body.ensures.store.kept ∙ c.loop-patch.invariant.files;
      later = omega (arith, c.in_ok-body.ensures.store.later, c.loop-patch.invariant.later);
      taken = taken-more c.args.index c.loop-patch.patch _ _ _ (length c.in_ok-body.body.bytes) below (rw same at c.in_ok-body.ensures.body.size) c.loop-patch.invariant.taken c.in_ok-body.ensures.taken;
      index = c.in_ok-checker-2.ensures.index ∙ c.loop-patch.invariant.index;
      next = omega (arith, c.in_ok-checker-2.ensures.next, c.loop-patch.invariant.next);
      told = read-more _ c.args.index c.loop-patch.patch c.in_ok-body.body.lists c.loop-patch.checker c.in_ok-checker-2.checker below (rw (same, c.loop-patch.invariant.files) at c.in_ok-body.ensures.exact)
          (λ bodies follows is. c.in_ok-checker-2.ensures.follows bodies follows (ap (λ k. slice_get bodies k) c.loop-patch.invariant.next ∙ is)) c.loop-patch.invariant.told;
    }

pub returns-clause-told : goal.returns-clause-told
returns-clause-told g c = read-all _ c.args.index c.loop-patch.patch c.loop-patch.checker (omega (arith, c.patch_count-patches.ensures.value, c.loop-patch-test.false)) c.loop-patch.invariant.told

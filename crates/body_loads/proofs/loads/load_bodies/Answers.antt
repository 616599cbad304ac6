-- Each body is loaded behind those before it.
use Rattle.std.proofs.Common.{◌≡◌, [], ◌∷◌, ◌++◌, ◌∙◌, ap, arith, map}
use Rattle.std.specs.Arc.{arc_value}
use Rattle.std.proofs.lemmas.List.{map-append}
use Rattle.std.proofs.lemmas.Result.{err_from_is_err_and}
use Rattle.body_loads.proofs.Steps.{later_change, named_later, taken_more, taken_all, most_more, cut_more, most_all, own_more, patches_more, told_more}
use Rattle.body_loads.proofs.loads.load_bodies.Goals as goal

pub returns-in_err-body-clause-told : goal.returns-in_err-body-clause-told
returns-in_err-body-clause-told g c =
    let p = err_from_is_err_and c.from_residual-in_err-body.result c.from_residual-in_err-body.ensures.1 in
    rw (p.1, p.2) (later_change _ c.args.index.now c.args.patches.now c.loop-patch.patch-index _ (map arc_value c.loop-patch.bodies.items) c.in_err-body.field-0.0 c.loop-patch-test.true c.loop-patch.invariant.told (rw c.loop-patch.invariant.files at c.in_err-body.ensures.told))

pub returns-in_err-body-clause-names : goal.returns-in_err-body-clause-names
returns-in_err-body-clause-names g c =
    let p = err_from_is_err_and c.from_residual-in_err-body.result c.from_residual-in_err-body.ensures.1 in
    rw (p.1, p.2) (named_later c.args.patches.now c.loop-patch.patch-index _ c.in_err-body.field-0.0 c.loop-patch-test.true c.in_err-body.ensures.names)

pub returns-in_err-body-clause-most : goal.returns-in_err-body-clause-most
returns-in_err-body-clause-most g c = most_more c.args.index.now c.args.patches.now c.loop-patch.patch-index _ _ _ _ c.loop-patch-test.true c.loop-patch.invariant.taken c.in_err-body.ensures.most

pub returns-in_err-body-clause-cut : goal.returns-in_err-body-clause-cut
returns-in_err-body-clause-cut g c =
    let p = err_from_is_err_and c.from_residual-in_err-body.result c.from_residual-in_err-body.ensures.1 in
    rw (p.1, p.2) (λ is. cut_more c.args.index.now c.args.patches.now c.loop-patch.patch-index _ _ _ _ c.loop-patch-test.true c.loop-patch.invariant.taken (c.in_err-body.ensures.cut is))

pub returns-in_err-push-clause-most : goal.returns-in_err-push-clause-most
returns-in_err-push-clause-most g c = most_more c.args.index.now c.args.patches.now c.loop-patch.patch-index _ _ _ _ c.loop-patch-test.true c.loop-patch.invariant.taken c.in_ok-body.ensures.most

pub loop-patch-preserved : goal.loop-patch-preserved
loop-patch-preserved g c =
    let bodies = map arc_value c.loop-patch.bodies.items in
    let body = arc_value c.in_ok-body.body in
    let index = c.args.index.now in
    let patches = c.args.patches.now in
    let i = c.loop-patch.patch-index in
    let lt = c.loop-patch-test.true in
    let is = c.in_ok-body.ensures.body in
    let more : map arc_value c.push.new.self.items ≡ bodies ++ body ∷ [] = ap (map arc_value) c.in_ok-push.ensures.items ∙ map-append arc_value c.loop-patch.bodies.items (c.in_ok-body.body ∷ []) in
    record {
      files = c.in_ok-body.ensures.store.kept ∙ c.loop-patch.invariant.files;
      later = omega (arith, c.in_ok-body.ensures.store.later, c.loop-patch.invariant.later);
      patches = rw more (patches_more patches i _ bodies body lt c.loop-patch.invariant.patches is.number);
      bodies = rw more (own_more index bodies body c.loop-patch.invariant.bodies (rw (← is.number) at is));
      taken = taken_more index patches i _ _ _ _ lt c.loop-patch.invariant.taken c.in_ok-body.ensures.taken;
      told = rw more (told_more _ index patches i _ bodies body lt c.loop-patch.invariant.told (rw c.loop-patch.invariant.files at c.in_ok-body.ensures.told));
    }

pub returns-clause-taken : goal.returns-clause-taken
returns-clause-taken g c = taken_all c.args.index.now c.args.patches.now c.loop-patch.patch-index _ _ (omega (arith, c.loop-patch-test.false)) c.loop-patch.invariant.taken

pub returns-clause-most : goal.returns-clause-most
returns-clause-most g c = most_all c.args.index.now c.args.patches.now c.loop-patch.patch-index _ _ (omega (arith, c.loop-patch-test.false)) c.loop-patch.invariant.taken

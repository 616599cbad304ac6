use Rattle.std.proofs.Common.{get_or, arith, ap, Option}
use Rattle.std.specs.Prelude.{option_map, unwrap_or}
use Rattle.std.proofs.lemmas.List.Sums.{sum_by_more}
use Rattle.std.proofs.lemmas.Option.{slice_get-get_or}
use Rattle.file_model.specs.declared.fields.PatchField.{PatchField}
use Rattle.cut_refiner.specs.GrowingCuts.{triangles_at}
use Rattle.cut_refiner.proofs.growing_cuts.triangles_of.Goals as goal

pub loop-patch-preserved : goal.loop-patch-preserved
loop-patch-preserved c =
    let p = get_or c.args.patches.now c.loop-patch.patch-index 0 in
    let none : PatchField = record { tail = 0; head = 0; points = 0; triangles = 0 } in
    let here = ap (λ (o : Option PatchField). unwrap_or (option_map (λ (f : PatchField). f.triangles) o) 0) (slice_get-get_or c.args.fields.now p none (c.requires.patches c.loop-patch.patch-index 0 c.loop-patch-test.true)) in
    let more = sum_by_more (triangles_at c.args.fields.now) c.args.patches.now c.loop-patch.patch-index 0 c.loop-patch-test.true in
    record { sum = omega (arith, more, here, c.triangles_in-sum.ensures.value); few = omega (arith, c.triangles_in-sum.ensures.few) }

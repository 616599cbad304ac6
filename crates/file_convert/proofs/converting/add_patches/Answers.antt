use Rattle.std.proofs.Common.{◌≡◌, Some, map, sym, ap, ◌∙◌, arith}
use Rattle.std.specs.Prelude.{slice_get}
use Rattle.std.specs.Arc.{arc_value}
use Rattle.file_model.specs.Lists.{BodyLists}
use Rattle.file_convert.specs.ConvertLaws.{fits_at}
use Rattle.file_convert.specs.Held.{lists_of}
use Rattle.file_convert.proofs.Taken.{item_lists, patches_more}
use Rattle.file_convert.proofs.Fitting.{rules_more}
use Rattle.file_convert.proofs.converting.add_patches.Goals as goal

pub converted-requires-clause-fits : goal.converted-requires-clause-fits
converted-requires-clause-fits c =
    fits_at c.args.version (lists_of (map arc_value c.args.bodies.now)) c.loop-patch.patch c.deref.result.now.lists c.requires.fit
    (item_lists arc_value c.args.bodies.now c.loop-patch.patch c.index-bodies-patch.result c.deref.result.now (omega arith) c.index-bodies-patch.is c.deref.ensures)

pub loop-patch-preserved : goal.loop-patch-preserved
loop-patch-preserved c =
    let lists = lists_of (map arc_value c.args.bodies.now) in
    let here : slice_get lists c.loop-patch.patch ≡ Some c.in_ok-body.body.lists = item_lists arc_value c.args.bodies.now c.loop-patch.patch c.index-bodies-patch.result c.deref.result.now (omega arith) c.index-bodies-patch.is c.deref.ensures ∙ ap (λ (b : BodyLists). Some b) (sym c.in_ok-body.ensures.lists) in
    record {
      parts = patches_more c.args.parts.now c.loop-patch.parts c.add_patch.new.self c.args.fields.now lists c.loop-patch.patch _ c.in_ok-body.body.lists c.loop-patch-test.true here c.loop-patch.invariant.parts c.in_ok-add_patch.ensures.ok;
      rules = rules_more c.args.version lists c.loop-patch.patch c.in_ok-body.body.lists here c.in_ok-body.ensures.rules c.loop-patch.invariant.rules;
    }

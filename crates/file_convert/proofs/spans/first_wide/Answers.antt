use Rattle.std.proofs.Common.{map, sym, ◌∙◌, arith}
use Rattle.std.specs.Arc.{arc_value}
use Rattle.file_convert.specs.Held.{lists_of}
use Rattle.file_convert.proofs.Taken.{item_lists, lists_length}
use Rattle.file_convert.proofs.Fitting.{first_fit_none, first_fit_more, least_wide, all_fit}
use Rattle.file_convert.proofs.spans.first_wide.Goals as goal

pub loop-patch-init : goal.loop-patch-init
loop-patch-init c = first_fit_none (lists_of (map arc_value c.args.bodies.now))

pub returns-then-not-branch : goal.returns-then-not-branch
returns-then-not-branch c =
    least_wide (lists_of (map arc_value c.args.bodies.now)) c.loop-patch.patch c.deref.result.now.lists
    (item_lists arc_value c.args.bodies.now c.loop-patch.patch c.index-bodies-patch.result c.deref.result.now c.loop-patch-test.true c.index-bodies-patch.is c.deref.ensures)
    (sym c.in_ok-fits.ensures ∙ c.if-not-branch.true) c.loop-patch.invariant

pub loop-patch-preserved : goal.loop-patch-preserved
loop-patch-preserved c =
    first_fit_more (lists_of (map arc_value c.args.bodies.now)) c.loop-patch.patch c.deref.result.now.lists
    (item_lists arc_value c.args.bodies.now c.loop-patch.patch c.index-bodies-patch.result c.deref.result.now c.loop-patch-test.true c.index-bodies-patch.is c.deref.ensures)
    (sym c.in_ok-fits.ensures ∙ c.if-not-branch.false) c.loop-patch.invariant

pub returns : goal.returns
returns c = all_fit (lists_of (map arc_value c.args.bodies.now)) c.loop-patch.patch (omega (arith, c.loop-patch-test.false, lists_length arc_value c.args.bodies.now)) c.loop-patch.invariant

-- One slot more is looked at.
use Rattle.std.proofs.Common.{◌∙◌, arith, rules}
use Rattle.wish_board.proofs.MaximaLemmas.{most-more, most-is}
use Rattle.wish_board.proofs.maxima.greatest_wish.Goals.{in-Some, in_default}
use Rattle.wish_board.proofs.maxima.greatest_wish.Goals as goal

pub loop-slot-preserved : goal.loop-slot-preserved
loop-slot-preserved c =
    let views = c.args.views.now in
    let there = c.requires.slots.there c.loop-slot.slot-index 0 c.loop-slot-test.true in
    let more = most-more views c.args.slots.now c.args.node c.loop-slot.slot-index c.loop-slot.greatest c.match-views-slot.greatest c.index-views-slot.result c.loop-slot-test.true there c.index-views-slot.is (elim c.match-views-slot.branch [
      | in-Some w ↦ rw w.in-Some.is (w.greatest-is ∙ search rules)
      | in_default w ↦ rw w.in_default.is (let same = w.greatest-is in omega (arith, same))
    ]) c.loop-slot.invariant.most c.loop-slot.invariant.each in
    record { most = more.0; each = more.1 }

pub returns : goal.returns
returns c = most-is c.args.views.now c.args.slots.now c.args.node c.loop-slot.slot-index c.loop-slot.greatest c.requires.slots c.loop-slot.invariant.most c.loop-slot.invariant.each c.loop-slot-test.false

-- One more has its body, if it is of the patch.
use Rattle.std.proofs.Common.{◌<◌, sym, subst}
use Rattle.std.specs.Prelude.{slice_index_or}
use Rattle.tier_budget.proofs.ComingWalks.{past_end, give_here, give_elsewhere, given_more, given_all}
use Rattle.tier_budget.proofs.coming.give_body.Goals as goal
use Rattle.tier_budget.proofs.coming.give_body.Goals.{then-one-patch, else-one-patch}

pub loop-one-preserved : goal.loop-one-preserved
loop-one-preserved c =
    let now = c.loop-one.coming in
    let i = c.loop-one.one-index in
    let there = subst (λ n. i < n) (sym c.loop-one.auto.coming) c.loop-one-test.true in
    elim c.if-one-patch.branch [
      | then-one-patch w ↦ rw w.coming-is (given_more c.args.patch i c.args.coming.now now past_end _ c.loop-one-test.true there c.loop-one.invariant (give_here c.args.patch (slice_index_or now i past_end) w.if-one-patch.true))
      | else-one-patch w ↦ rw w.coming-is (given_more c.args.patch i c.args.coming.now now past_end _ c.loop-one-test.true there c.loop-one.invariant (give_elsewhere c.args.patch (slice_index_or now i past_end) w.if-one-patch.false))
    ]

pub returns : goal.returns
returns c = given_all c.args.patch c.loop-one.one-index c.args.coming.now c.loop-one.coming c.loop-one-test.false c.loop-one.invariant

-- One more patch has its rank.
use Rattle.std.proofs.Common.{false, refl, arith}
use Rattle.std.specs.Prelude.{slice_index}
use Rattle.tier_budget.specs.Heads.{bodies_in}
use Rattle.tier_budget.specs.Heaps.{missing_told}
use Rattle.tier_budget.proofs.HeapSteps.{refresh_none, refresh_more}
use Rattle.tier_budget.proofs.missing.seek_again.Goals as goal

pub loop-patch-init : goal.loop-patch-init
loop-patch-init c = refresh_none c.args.missing.now c.args.listed.now (missing_told c.args.wishes.now c.args.base.now (bodies_in c.args.held.now) c.args.coming.now false)

pub rank_of_missing-rank-requires : goal.rank_of_missing-rank-requires
rank_of_missing-rank-requires c =
    let there = c.requires.patches c.loop-patch.patch-index c.loop-patch-test.true in
    record { wishes = omega arith; base = omega arith; held = omega arith }

pub set-requires : goal.set-requires
set-requires c =
    let there = c.requires.patches c.loop-patch.patch-index c.loop-patch-test.true in
    let many = c.loop-patch.invariant.all_patches in
    omega arith

pub loop-patch-preserved : goal.loop-patch-preserved
loop-patch-preserved c =
    let patch = slice_index c.args.listed.now c.loop-patch.patch-index in
    let told = missing_told c.args.wishes.now c.args.base.now (bodies_in c.args.held.now) c.args.coming.now false in
    rw c.set.ensures
    (refresh_more c.args.missing.now c.loop-patch.missing c.loop-patch.patch-index c.args.listed.now told patch c.rank_of_missing-rank.result refl
    (c.requires.patches c.loop-patch.patch-index c.loop-patch-test.true) c.rank_of_missing-rank.ensures c.loop-patch.invariant)

-- One more patch has its rank.
use Rattle.std.proofs.Common.{false, refl, arith}
use Rattle.std.specs.Prelude.{slice_index}
use Rattle.tier_budget.specs.Heads.{bodies_in}
use Rattle.tier_budget.specs.Heaps.{leaving_told}
use Rattle.tier_budget.proofs.HeapSteps.{refresh_none, refresh_more}
use Rattle.tier_budget.proofs.leaving.put_back.Goals as goal

pub loop-patch-init : goal.loop-patch-init
loop-patch-init c = refresh_none c.args.leaving.now c.args.listed.now (leaving_told (bodies_in c.args.held.now) c.args.pinned.now false c.args.wishes.now)

pub rank_to_leave-rank-requires : goal.rank_to_leave-rank-requires
rank_to_leave-rank-requires c =
    let there = c.requires.patches c.loop-patch.patch-index c.loop-patch-test.true in
    record { held = omega arith; pinned = omega arith; wishes = omega arith }

pub set-requires : goal.set-requires
set-requires c =
    let there = c.requires.patches c.loop-patch.patch-index c.loop-patch-test.true in
    let many = c.loop-patch.invariant.all_patches in
    omega arith

pub loop-patch-preserved : goal.loop-patch-preserved
loop-patch-preserved c =
    let patch = slice_index c.args.listed.now c.loop-patch.patch-index in
    let told = leaving_told (bodies_in c.args.held.now) c.args.pinned.now false c.args.wishes.now in
    rw c.set.ensures
    (refresh_more c.args.leaving.now c.loop-patch.leaving c.loop-patch.patch-index c.args.listed.now told patch c.rank_to_leave-rank.result refl
    (c.requires.patches c.loop-patch.patch-index c.loop-patch-test.true) c.rank_to_leave-rank.ensures c.loop-patch.invariant)

-- One more patch has its rank.
use Rattle.std.proofs.Common.{◌≡◌, ◌<◌, ℕ, length, refl, ap, ◌∙◌, arith}
use Rattle.std.proofs.lemmas.List.{length-set}
use Rattle.tier_model.specs.Places.{is_marked}
use Rattle.tier_budget.specs.Heads.{bodies_in}
use Rattle.tier_budget.specs.Heaps.{leaving_told}
use Rattle.tier_budget.proofs.HeapSteps.{heap_more}
use Rattle.tier_budget.proofs.leaving.rank_leaving.Goals as goal

pub loop-patch-preserved : goal.loop-patch-preserved
loop-patch-preserved c =
    let patch = c.loop-patch.patch in
    let told = λ (p : ℕ). leaving_told (bodies_in c.args.held.now) c.args.pinned.now (is_marked c.args.passed.now p) c.args.wishes.now p in
    let within : patch < length c.loop-patch.leaving = (let sized = c.loop-patch.invariant.sized in let held = c.requires.held in let less = c.loop-patch-test.true in omega arith) in
    let is_told : c.rank_to_leave-rank.result ≡ told patch = c.rank_to_leave-rank.ensures ∙ ap (λ b. leaving_told (bodies_in c.args.held.now) c.args.pinned.now b c.args.wishes.now patch) c.has.ensures in
    rw c.set.ensures (record {
      sized = length-set c.loop-patch.leaving patch c.rank_to_leave-rank.result ∙ c.loop-patch.invariant.sized;
      ranked = heap_more patch told c.loop-patch.leaving patch c.rank_to_leave-rank.result refl within is_told c.loop-patch.invariant.ranked;
    })

pub returns : goal.returns
returns c = record {
  all_patches = c.loop-patch.invariant.sized;
  each = λ p within. c.loop-patch.invariant.ranked p (let held = c.requires.held in let past = c.loop-patch-test.false in omega arith);
}

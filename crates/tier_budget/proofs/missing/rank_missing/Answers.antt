-- One more patch has its rank.
use Rattle.std.proofs.Common.{◌≡◌, ◌<◌, ℕ, length, refl, ap, ◌∙◌, arith}
use Rattle.std.proofs.lemmas.List.{length-set}
use Rattle.tier_model.specs.Places.{is_marked}
use Rattle.tier_budget.specs.Heads.{bodies_in}
use Rattle.tier_budget.specs.Heaps.{missing_told}
use Rattle.tier_budget.proofs.HeapSteps.{heap_more}
use Rattle.tier_budget.proofs.missing.rank_missing.Goals as goal

pub loop-patch-preserved : goal.loop-patch-preserved
loop-patch-preserved c =
    let patch = c.loop-patch.patch in
    let told = λ (p : ℕ). missing_told c.args.wishes.now c.args.base.now (bodies_in c.args.held.now) c.args.coming.now (is_marked c.args.aside.now p) p in
    let within : patch < length c.loop-patch.missing = (let sized = c.loop-patch.invariant.sized in let held = c.requires.held in let less = c.loop-patch-test.true in omega arith) in
    let is_told : c.rank_of_missing-rank.result ≡ told patch = c.rank_of_missing-rank.ensures ∙ ap (λ b. missing_told c.args.wishes.now c.args.base.now (bodies_in c.args.held.now) c.args.coming.now b patch) c.has.ensures in
    rw c.set.ensures (record {
      sized = length-set c.loop-patch.missing patch c.rank_of_missing-rank.result ∙ c.loop-patch.invariant.sized;
      ranked = heap_more patch told c.loop-patch.missing patch c.rank_of_missing-rank.result refl within is_told c.loop-patch.invariant.ranked;
    })

pub returns : goal.returns
returns c = record {
  all_patches = c.loop-patch.invariant.sized;
  each = λ p within. c.loop-patch.invariant.ranked p (let held = c.requires.held in let past = c.loop-patch-test.false in omega arith);
}

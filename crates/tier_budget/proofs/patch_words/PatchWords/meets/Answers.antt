-- All words of both were asked.
use Rattle.std.proofs.Common.{arith}
use Rattle.tier_budget.proofs.WordSteps.{apart_sets}
use Rattle.tier_budget.proofs.patch_words.PatchWords.meets.Goals as goal

pub returns : goal.returns
returns c = λ none p one other.
    apart_sets c.self.inside.words.items c.other.inside.words.items c.loop-at.at c.loop-at.invariant
    (λ i after within there.
    let past = c.loop-at-test.false in
    let many = c.min-many.ensures in
    let ours = c.len.ensures in
    let others = c.len-2.ensures in
    absurd (omega arith))
    p (rw c.self.view_is one) (rw c.other.view_is other)

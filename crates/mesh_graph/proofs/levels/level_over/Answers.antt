use Rattle.std.proofs.Common.{◌≡◌, ℕ, ◌+◌, max, arith, refl, ◌∙◌}
use Rattle.std.specs.Ordering.{ord_max, nat_cmp}
use Rattle.std.proofs.lemmas.Bool.Decides.{nat_tests}
use Rattle.std.proofs.lemmas.List.{take_more}
use Rattle.mesh_graph.specs.Levels.{HasTailLevel}
use Rattle.mesh_graph.proofs.LevelLaws.{over_more}
use Rattle.mesh_graph.proofs.levels.level_over.Goals as goal

max_is : (a b : ℕ) → ord_max nat_cmp a b ≡ max a b
max_is a b = grind (arith, nat_tests)

pub overflow_add-below : goal.overflow_add-below
overflow_add-below c =
    let has : HasTailLevel c.args.fields.now c.args.levels.now _ c.in-Some.below = c.in-Some.ensures.some c.in-Some.below refl in
    omega (arith, c.requires.levels.room _ c.in-Some.below has.tail)

pub loop-patch-preserved : goal.loop-patch-preserved
loop-patch-preserved c =
    rw (take_more c.args.patches.now c.loop-patch.patch-index 0 c.loop-patch-test.true)
    (over_more c.args.fields.now c.args.levels.now _ c.loop-patch.level _ c.in-Some.below c.max-level.result c.loop-patch.invariant (c.in-Some.ensures.some c.in-Some.below refl) (c.max-level.ensures ∙ max_is c.loop-patch.level (c.in-Some.below + 1)))

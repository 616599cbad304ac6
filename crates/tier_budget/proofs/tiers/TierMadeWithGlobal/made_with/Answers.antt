-- A tier of no patches.
use Rattle.std.proofs.Common.{[], ap, refl, arith}
use Rattle.file_model.specs.Lists.{IndexLists}
use Rattle.tier_model.specs.Changes.{fresh}
use Rattle.tier_budget.specs.Heads.{bodies_in}
use Rattle.tier_budget.proofs.Equations.{fresh_is}
use Rattle.tier_budget.proofs.SoundLaws.{sound_moved, sound-fresh}
use Rattle.tier_budget.proofs.LeavingSteps.{leaving_moved, leaving-fresh}
use Rattle.tier_budget.proofs.HoldsSteps.{holds_moved, holds-fresh}
use Rattle.tier_budget.proofs.MissingSteps.{missing_moved, missing-fresh}
use Rattle.tier_budget.proofs.tiers.TierMadeWithGlobal.made_with.Goals as goal

-- an index of nothing
abbrev empty : IndexLists
empty = record { version = 1; nodes = []; fields = [] }

pub invariant_of-result : goal.invariant_of-result
invariant_of-result c =
    let is = fresh_is empty 0 1 c.new.result.items c.new-2.result.items c.new-3.result.items c.new-4.result.items c.new-5.result c.new-6.result (bodies_in c.new-7.result.items) (bodies_in c.new-8.result.items) c.new-9.result.items c.new-10.result.entries
    c.new.ensures.items c.new-2.ensures.items c.new-3.ensures.items c.new-4.ensures.items c.new-5.ensures c.new-6.ensures (ap bodies_in c.new-7.ensures.items) (ap bodies_in c.new-8.ensures.items) c.new-9.ensures.items c.new-10.ensures.entries in
    record {
      sound = sound_moved (fresh empty 0 1) _ 0 0 0 0 _ _ _ _ is refl refl refl c.new-9.ensures.capacity
          (sound-fresh empty 0 1 0 (record { some_come = omega arith; few_come = omega arith }) (omega arith) (λ some. absurd (omega arith)));
      leaving = leaving_moved (fresh empty 0 1) _ c.new-11.result is (leaving-fresh empty 0 1 c.new-11.result c.new-11.ensures);
      missing = missing_moved (fresh empty 0 1) _ c.new-12.result is (missing-fresh empty 0 1 c.new-12.result c.new-12.ensures);
      holds = holds_moved (fresh empty 0 1) _ c.new-13.result is (holds-fresh empty 0 1 c.new-13.result (omega arith));
    }

-- A tier that holds nothing.
use Rattle.std.proofs.Common.{refl, rules, arith}
use Rattle.tier_model.specs.Changes.{fresh}
use Rattle.tier_budget.specs.Heads.{bodies_in}
use Rattle.tier_budget.proofs.Equations.{fresh_is}
use Rattle.tier_budget.proofs.IndexWalks.{few_patches}
use Rattle.tier_budget.proofs.SoundLaws.{sound_moved, sound-fresh}
use Rattle.tier_budget.proofs.LeavingSteps.{leaving_moved, leaving-fresh}
use Rattle.tier_budget.proofs.HoldsSteps.{holds_moved, holds-fresh}
use Rattle.tier_budget.proofs.MissingSteps.{missing_moved, missing-fresh}
use Rattle.tier_budget.proofs.tiers.Tier.with_journal.Goals as goal

pub returns-clause-state : goal.returns-clause-state
returns-clause-state c =
    fresh_is c.args.index.now c.args.budget c.args.width c.in_ok-body_sizes.field-0.items c.in_ok-vec.field-0.items c.in_ok-base_patches.field-0.items c.in_ok-vec-2.field-0.items c.in_ok-with_patches.field-0 c.in_ok-with_patches-2.field-0
    (bodies_in c.in_ok-no_bodies.field-0.items) (bodies_in c.in_ok-no_bodies-2.field-0.items) c.in_ok-with_capacity.field-0.items c.new.result.entries
    c.in_ok-body_sizes.ensures (search rules) c.in_ok-base_patches.ensures (search rules) (search rules) (search rules) (search rules) (search rules) (search rules) c.new.ensures.entries

pub invariant_of-result : goal.invariant_of-result
invariant_of-result c =
    record {
      sound = sound_moved (fresh c.args.index.now c.args.budget c.args.width) _ _ _ _ _ _ _ _ _ (returns-clause-state c) refl refl refl refl
          (sound-fresh c.args.index.now c.args.budget c.args.width _ c.requires (few_patches c.args.index.now c.patch_count-patches.ensures.rules) (λ some. c.in_ok-with_capacity.ensures.capacity));
      leaving = leaving_moved (fresh c.args.index.now c.args.budget c.args.width) _ c.in_ok-with_ids.field-0 (returns-clause-state c)
          (leaving-fresh c.args.index.now c.args.budget c.args.width c.in_ok-with_ids.field-0 (search rules));
      missing = missing_moved (fresh c.args.index.now c.args.budget c.args.width) _ c.in_ok-with_patches-3.field-0 (returns-clause-state c)
          (missing-fresh c.args.index.now c.args.budget c.args.width c.in_ok-with_patches-3.field-0 (search rules));
      holds = holds_moved (fresh c.args.index.now c.args.budget c.args.width) _ _ (returns-clause-state c)
          (holds-fresh c.args.index.now c.args.budget c.args.width c.in_ok-with_patches-4.field-0 (let room = c.in_ok-with_patches-4.ensures in let many = c.patch_count-patches.ensures.value in omega arith));
    }

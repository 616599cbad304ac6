-- The patch is marked, and not in the heap.
use Rattle.std.proofs.Common.{refl, ap, ◌∙◌, arith}
use Rattle.tier_model.specs.Changes.{passed_over}
use Rattle.tier_budget.specs.TierView.{TierSeen, state_of, tier_view}
use Rattle.tier_budget.proofs.Equations.{passed_over_is}
use Rattle.tier_budget.proofs.SoundLaws.{sound_of_view, sound_moved, sound-passed_over}
use Rattle.tier_budget.proofs.LeavingSteps.{leaving_moved, leaving_of_view, leaving-passed_over}
use Rattle.tier_budget.proofs.MissingSteps.{missing_moved, missing_of_view, missing-passed_over}
use Rattle.tier_budget.proofs.tiers.Tier.pass_over.Goals as goal

pub set-requires : goal.set-requires
set-requires c =
    let heap = leaving_of_view (tier_view c.self.inside) c.args.self.now c.self.inside.leaving c.self.view_is c.self.invariant.leaving in
    let many = heap.all_patches in
    omega arith

pub returns-clause-state : goal.returns-clause-state
returns-clause-state c = passed_over_is (state_of c.self.inside) c.args.patch c.mark.new.self c.mark.ensures ∙ ap (λ (v : TierSeen). passed_over v.state c.args.patch) c.self.view_is

pub invariant_of-self : goal.invariant_of-self
invariant_of-self c =
    let old = c.args.self.now.state in
    let sound = sound_of_view (tier_view c.self.inside) c.args.self.now c.self.inside.load c.self.inside.pinned_bytes c.self.inside.held_count c.self.inside.coming.cap c.self.view_is c.self.invariant.sound in
    let heap = leaving_of_view (tier_view c.self.inside) c.args.self.now c.self.inside.leaving c.self.view_is c.self.invariant.leaving in
    let absent = missing_of_view (tier_view c.self.inside) c.args.self.now c.self.inside.missing c.self.view_is c.self.invariant.missing in
    record {
      sound = sound_moved (passed_over old c.args.patch) _ _ _ _ _ _ _ _ _ (returns-clause-state c) refl refl refl refl (sound-passed_over old c.args.patch _ _ _ _ sound);
      leaving = leaving_moved (passed_over old c.args.patch) _ _ (returns-clause-state c)
          (rw c.set.ensures (leaving-passed_over old c.args.patch c.self.inside.leaving sound.tier c.requires heap));
      missing = missing_moved (passed_over old c.args.patch) _ _ (returns-clause-state c) (missing-passed_over old c.args.patch c.self.inside.missing absent);
      holds = c.self.invariant.holds;
    }

pub returns-clause-kept : goal.returns-clause-kept
returns-clause-kept c = (invariant_of-self c).sound.tier

-- The patch is the last of those that come.
use Rattle.std.proofs.Common.{◌+◌, ap, ◌∙◌, refl, arith}
use Rattle.tier_model.specs.Tiers.{size}
use Rattle.tier_model.specs.Changes.{reserved}
use Rattle.tier_budget.specs.TierView.{TierSeen, state_of, tier_view}
use Rattle.tier_budget.proofs.Equations.{reserved_is}
use Rattle.tier_budget.proofs.SumLaws.{size_read, marked_within}
use Rattle.tier_budget.proofs.SoundLaws.{sound_of_view, sound_moved, sound-reserved}
use Rattle.tier_budget.proofs.LeavingSteps.{leaving_moved, leaving_of_view, leaving-reserved}
use Rattle.tier_budget.proofs.MissingSteps.{missing_moved, missing_of_view, missing-reserved}
use Rattle.tier_budget.proofs.tiers.Tier.reserve.Goals as goal

pub returns-clause-state : goal.returns-clause-state
returns-clause-state c =
    reserved_is (state_of c.self.inside) c.args.patch c.push_reserved.new.self.items c.push_reserved-2.new.self.entries c.push_reserved.ensures.items c.push_reserved-2.ensures.entries
    ∙ ap (λ (v : TierSeen). reserved v.state c.args.patch) c.self.view_is

pub invariant_of-self : goal.invariant_of-self
invariant_of-self c =
    let old = c.args.self.now.state in
    let sound = sound_of_view (tier_view c.self.inside) c.args.self.now c.self.inside.load c.self.inside.pinned_bytes c.self.inside.held_count c.self.inside.coming.cap c.self.view_is c.self.invariant.sound in
    let within = marked_within old c.args.patch _ sound.tier c.requires.needs.1 in
    let heap = leaving_of_view (tier_view c.self.inside) c.args.self.now c.self.inside.leaving c.self.view_is c.self.invariant.leaving in
    let absent = missing_of_view (tier_view c.self.inside) c.args.self.now c.self.inside.missing c.self.view_is c.self.invariant.missing in
    record {
      sound = sound_moved (reserved old c.args.patch) _ (c.self.inside.load + size old c.args.patch) _ _ _ _ _ _ _ (returns-clause-state c)
          (ap (λ n. c.self.inside.load + n) (size_read (tier_view c.self.inside) c.args.self.now c.args.patch c.index.result.now c.self.view_is within c.index.ensures)) refl refl c.push_reserved.ensures.capacity
          (sound-reserved old c.args.patch _ _ _ _ sound c.requires.needs c.requires.room);
      leaving = leaving_moved (reserved old c.args.patch) _ _ (returns-clause-state c)
          (leaving-reserved old c.args.patch c.self.inside.leaving heap);
      missing = missing_moved (reserved old c.args.patch) _ _ (returns-clause-state c) (rw c.set.ensures (missing-reserved old c.args.patch c.self.inside.missing absent));
      holds = c.self.invariant.holds;
    }

pub returns-clause-kept : goal.returns-clause-kept
returns-clause-kept c = (invariant_of-self c).sound.tier

pub set-requires : goal.set-requires
set-requires c =
    let sound = sound_of_view (tier_view c.self.inside) c.args.self.now c.self.inside.load c.self.inside.pinned_bytes c.self.inside.held_count c.self.inside.coming.cap c.self.view_is c.self.invariant.sound in
    let absent = missing_of_view (tier_view c.self.inside) c.args.self.now c.self.inside.missing c.self.view_is c.self.invariant.missing in
    let within = marked_within c.args.self.now.state c.args.patch _ sound.tier c.requires.needs.1 in
    let many = absent.all_patches in
    omega arith

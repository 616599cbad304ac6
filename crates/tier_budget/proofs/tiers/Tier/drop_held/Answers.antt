-- The patch was held, and isn't any more.
use Rattle.std.proofs.Common.{◌≡◌, ℕ, sym, subst, ◌-◌, ◌<◌, length, ap, ◌∙◌, refl, arith, None}
use Rattle.std.specs.Prelude.{slice_set}
use Rattle.std.proofs.lemmas.List.{length-set}
use Rattle.tier_model.specs.Places.{is_marked}
use Rattle.tier_model.specs.Tiers.{TierState, count, size}
use Rattle.tier_model.specs.Changes.{dropped}
use Rattle.tier_budget.specs.Heads.{bodies_in}
use Rattle.tier_budget.specs.Heaps.{missing_at}
use Rattle.tier_budget.specs.TierView.{TierSeen, state_of, tier_view}
use Rattle.tier_budget.proofs.Equations.{dropped_is}
use Rattle.tier_budget.proofs.SumLaws.{size_read, marked_within}
use Rattle.tier_budget.proofs.Writes.{body_written, has_item}
use Rattle.tier_budget.proofs.SoundLaws.{sound_of_view, sound_moved, sound-dropped, counted}
use Rattle.tier_budget.proofs.LeavingSteps.{leaving_moved, leaving_of_view, leaving-dropped}
use Rattle.tier_budget.proofs.WordSteps.{room_for}
use Rattle.tier_budget.proofs.HoldsSteps.{holds_moved, holds_of_view, holds-dropped}
use Rattle.tier_budget.proofs.MissingSteps.{told_same, missing_moved, missing_of_view, missing-dropped}
use Rattle.tier_budget.proofs.tiers.Tier.drop_held.Goals as goal
use Rattle.tier_budget.proofs.tiers.Tier.drop_held.Goals.{After-index}

pub overflow_sub-self : goal.overflow_sub-self
overflow_sub-self c =
    let sound = sound_of_view (tier_view c.self.inside) c.args.self.now c.self.inside.load c.self.inside.pinned_bytes c.self.inside.held_count c.self.inside.coming.cap c.self.view_is c.self.invariant.sound in
    (counted c.args.self.now.state c.args.patch _ _ _ _ sound c.requires.needs).one

pub index-requires : goal.index-requires
index-requires c =
    let sound = sound_of_view (tier_view c.self.inside) c.args.self.now c.self.inside.load c.self.inside.pinned_bytes c.self.inside.held_count c.self.inside.coming.cap c.self.view_is c.self.invariant.sound in
    let within = marked_within c.args.self.now.state c.args.patch _ sound.tier c.requires.needs.1 in
    let many = c.self.inside.sizes.ok.0 in
    let same = ap (λ (v : TierSeen). length v.state.sizes) c.self.view_is in
    omega arith

pub overflow_sub-self-2 : goal.overflow_sub-self-2
overflow_sub-self-2 c =
    let sound = sound_of_view (tier_view c.self.inside) c.args.self.now c.self.inside.load c.self.inside.pinned_bytes c.self.inside.held_count c.self.inside.coming.cap c.self.view_is c.self.invariant.sound in
    let within = marked_within c.args.self.now.state c.args.patch _ sound.tier c.requires.needs.1 in
    let is = size_read (tier_view c.self.inside) c.args.self.now c.args.patch c.index.result.now c.self.view_is within c.index.ensures in
    let less = (counted c.args.self.now.state c.args.patch _ _ _ _ sound c.requires.needs).bytes in
    omega arith

pub returns-clause-state : goal.returns-clause-state
returns-clause-state c =
    dropped_is (state_of c.self.inside) c.args.patch _ c.push_reserved.new.self.entries (body_written c.self.inside.held.items c.args.patch None) c.push_reserved.ensures.entries
    ∙ ap (λ (v : TierSeen). dropped v.state c.args.patch) c.self.view_is

pub invariant_of-self : goal.invariant_of-self
invariant_of-self c =
    let old = c.args.self.now.state in
    let sound = sound_of_view (tier_view c.self.inside) c.args.self.now c.self.inside.load c.self.inside.pinned_bytes c.self.inside.held_count c.self.inside.coming.cap c.self.view_is c.self.invariant.sound in
    let within = marked_within old c.args.patch _ sound.tier c.requires.needs.1 in
    let heap = leaving_of_view (tier_view c.self.inside) c.args.self.now c.self.inside.leaving c.self.view_is c.self.invariant.leaving in
    let s = state_of c.self.inside in
    let bodies = bodies_in (slice_set c.self.inside.held.items c.args.patch None) in
    let is_told : c.rank_of_missing-rank.result ≡ missing_at (dropped old c.args.patch) c.args.patch =
    c.rank_of_missing-rank.ensures
    ∙ told_same _ s.wishes _ s.base _ bodies _ s.coming _ (is_marked s.aside c.args.patch) c.args.patch c.deref.ensures.value c.deref-2.ensures.value (ap bodies_in c.deref-3.ensures.value) c.deref-4.ensures.value c.has-is_aside.ensures
    ∙ ap (λ (u : TierState). missing_at u c.args.patch) (returns-clause-state c) in
    let absent = missing_of_view (tier_view c.self.inside) c.args.self.now c.self.inside.missing c.self.view_is c.self.invariant.missing in
    record {
      sound = sound_moved (dropped old c.args.patch) _ (c.self.inside.load - size old c.args.patch) _ _ _ _ _ _ _ (returns-clause-state c)
          (ap (λ n. c.self.inside.load - n) (size_read (tier_view c.self.inside) c.args.self.now c.args.patch c.index.result.now c.self.view_is within c.index.ensures)) refl refl refl
          (sound-dropped old c.args.patch _ _ _ _ sound c.requires.needs);
      leaving = leaving_moved (dropped old c.args.patch) _ _ (returns-clause-state c)
          (rw c.set.ensures (leaving-dropped old c.args.patch c.self.inside.leaving sound.tier within heap));
      missing = missing_moved (dropped old c.args.patch) _ _ (returns-clause-state c) (rw c.set-2.ensures (missing-dropped old c.args.patch c.rank_of_missing-rank.result c.self.inside.missing is_told absent));
      holds = holds_moved (dropped old c.args.patch) _ _ (returns-clause-state c)
          (holds-dropped old c.args.patch c.self.inside.holds _ c.remove.ensures.others c.remove.ensures.room
          (holds_of_view (tier_view c.self.inside) c.args.self.now c.self.inside.holds c.self.view_is c.self.invariant.holds));
    }

pub returns-clause-kept : goal.returns-clause-kept
returns-clause-kept c = (invariant_of-self c).sound.tier

pub set-requires : goal.set-requires
set-requires c =
    let sound = sound_of_view (tier_view c.self.inside) c.args.self.now c.self.inside.load c.self.inside.pinned_bytes c.self.inside.held_count c.self.inside.coming.cap c.self.view_is c.self.invariant.sound in
    let heap = leaving_of_view (tier_view c.self.inside) c.args.self.now c.self.inside.leaving c.self.view_is c.self.invariant.leaving in
    let within = marked_within c.args.self.now.state c.args.patch _ sound.tier c.requires.needs.1 in
    let many = heap.all_patches in
    omega arith

within : (c : After-index) → c.args.patch < count (state_of c.self.inside)
within c =
    let sound = sound_of_view (tier_view c.self.inside) c.args.self.now c.self.inside.load c.self.inside.pinned_bytes c.self.inside.held_count c.self.inside.coming.cap c.self.view_is c.self.invariant.sound in
    let there = marked_within c.args.self.now.state c.args.patch _ sound.tier c.requires.needs.1 in
    subst (λ (v : TierSeen). c.args.patch < count v.state) (sym c.self.view_is) there

pub has-is_aside-requires : goal.has-is_aside-requires
has-is_aside-requires c =
    let there = within (goal.at.has-is_aside-requires c).After-index in
    let aside = c.self.invariant.sound.tier.sized.aside in
    omega arith

pub rank_of_missing-rank-requires : goal.rank_of_missing-rank-requires
rank_of_missing-rank-requires c =
    let there = within (goal.at.rank_of_missing-rank-requires c).After-index in
    let sized = c.self.invariant.sound.tier.sized in
    record {
      wishes = subst (λ (n : ℕ). c.args.patch < n) (sym (ap length c.deref.ensures.value ∙ sized.wishes)) there;
      base = subst (λ (n : ℕ). c.args.patch < n) (sym (ap length c.deref-2.ensures.value ∙ sized.base)) there;
      held = subst (λ (n : ℕ). c.args.patch < n) (sym (ap length c.deref-3.ensures.value ∙ length-set c.self.inside.held.items c.args.patch None)) (has_item c.self.inside.held.items _ c.args.patch sized.held there);
    }

pub set-requires-2 : goal.set-requires-2
set-requires-2 c =
    let there = within (goal.at.set-requires-2 c).After-index in
    let many = c.self.invariant.missing.all_patches in
    omega arith

pub remove-requires : goal.remove-requires
remove-requires c =
    let sound = sound_of_view (tier_view c.self.inside) c.args.self.now c.self.inside.load c.self.inside.pinned_bytes c.self.inside.held_count c.self.inside.coming.cap c.self.view_is c.self.invariant.sound in
    let holds = holds_of_view (tier_view c.self.inside) c.args.self.now c.self.inside.holds c.self.view_is c.self.invariant.holds in
    room_for _ _ c.args.patch holds.room (marked_within c.args.self.now.state c.args.patch _ sound.tier c.requires.needs.1)

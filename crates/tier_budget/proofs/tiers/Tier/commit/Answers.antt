-- The body that came is held, and its patch comes no more.
use Rattle.std.proofs.Common.{◌≡◌, ◌<◌, length, ap, subst, sym, ◌∙◌, refl, ℕ, List, Option, Some, arith}
use Rattle.std.proofs.lemmas.List.{length-set}
use Rattle.std.specs.Prelude.{option_map, slice_index_or, slice_set}
use Rattle.std.specs.Arc.{arc_value}
use Rattle.tier_model.specs.declared.turns.Coming.{Coming}
use Rattle.tier_model.specs.Places.{is_marked, first_coming}
use Rattle.tier_model.specs.Tiers.{TierState, count}
use Rattle.tier_laws.specs.ComingLaws.{first_comes, all_are_full}
use Rattle.tier_laws.specs.TierLaws.{comes_within}
use Rattle.tier_model.specs.Changes.{committed}
use Rattle.tier_budget.specs.Heads.{bodies_in}
use Rattle.tier_budget.specs.Heaps.{leaving_at}
use Rattle.tier_budget.specs.TierView.{TierSeen, state_of, tier_view}
use Rattle.tier_budget.proofs.Equations.{committed_is}
use Rattle.tier_budget.proofs.Writes.{body_written, body_read, has_place, has_item, at_some}
use Rattle.tier_budget.proofs.SoundLaws.{sound_of_view, sound_moved, sound-committed}
use Rattle.tier_budget.proofs.LeavingSteps.{told_same, leaving_moved, leaving_of_view, leaving-committed}
use Rattle.tier_budget.proofs.WordSteps.{room_for}
use Rattle.tier_budget.proofs.HoldsSteps.{holds_moved, holds_of_view, holds-committed}
use Rattle.tier_budget.proofs.MissingSteps.{missing_moved, missing_of_view, missing-committed}
use Rattle.tier_budget.proofs.tiers.Tier.commit.Goals as goal
use Rattle.tier_budget.proofs.tiers.Tier.commit.Goals.{In-Some}

first_is : (seen inside : List Coming) (o : Option ℕ) (p : ℕ) → seen ≡ inside → o ≡ first_coming seen → o ≡ Some p → first_coming inside ≡ Some p
first_is seen inside o p same told is = ap first_coming (sym same) ∙ sym told ∙ is

within : (c : In-Some) → c.in-Some.patch < count (state_of c.self.inside)
within c =
    comes_within (state_of c.self.inside) c.in-Some.patch c.self.invariant.sound.tier
    (first_comes c.self.inside.coming.items c.in-Some.patch
    (first_is c.deref.result.now c.self.inside.coming.items c.first_patch.result c.in-Some.patch c.deref.ensures.value c.first_patch.ensures c.in-Some.is))

pub index_mut-requires : goal.index_mut-requires
index_mut-requires c = has_place c.self.inside.came _ c.in-Some.patch c.self.invariant.sound.tier.sized.came (within (goal.at.index_mut-requires c).In-Some)

pub index_mut-requires-2 : goal.index_mut-requires-2
index_mut-requires-2 c = has_place c.self.inside.held _ c.in-Some.patch c.self.invariant.sound.tier.sized.held (within (goal.at.index_mut-requires-2 c).In-Some)

pub has-is_passed-requires : goal.has-is_passed-requires
has-is_passed-requires c =
    let there = within (goal.at.has-is_passed-requires c).In-Some in
    let passed = c.self.invariant.sound.tier.sized.passed in
    omega arith

pub rank_to_leave-rank-requires : goal.rank_to_leave-rank-requires
rank_to_leave-rank-requires c =
    let there = within (goal.at.rank_to_leave-rank-requires c).In-Some in
    let sized = c.self.invariant.sound.tier.sized in
    let held : c.in-Some.patch < length c.deref-2.result.now =
    subst (λ (n : ℕ). c.in-Some.patch < n) (sym (ap length c.deref-2.ensures.value ∙ length-set c.self.inside.held.items c.in-Some.patch c.take-body.result))
    (has_item c.self.inside.held.items _ c.in-Some.patch sized.held there) in
    record {
      held = held;
      pinned = subst (λ (n : ℕ). c.in-Some.patch < n) (sym (ap length c.deref-3.ensures.value ∙ sized.pinned)) there;
      wishes = subst (λ (n : ℕ). c.in-Some.patch < n) (sym (ap length c.deref-4.ensures.value ∙ sized.wishes)) there;
    }

pub set-requires : goal.set-requires
set-requires c =
    let there = within (goal.at.set-requires c).In-Some in
    let many = c.self.invariant.leaving.all_patches in
    omega arith

is_committed : (c : goal.After-push_reserved) → record (state_of c.self.inside) {
  held = bodies_in (slice_set c.self.inside.held.items c.in-Some.patch c.take-body.result);
  came = bodies_in (slice_set c.self.inside.came.items c.in-Some.patch c.take-body.new.self);
  coming = c.take_out.new.coming.items;
  journal = c.push_reserved.new.self.entries;
} ≡ committed c.args.self.now.state c.in-Some.patch
is_committed c =
    let p = c.in-Some.patch in
    let first = first_is c.deref.result.now c.self.inside.coming.items c.first_patch.result p c.deref.ensures.value c.first_patch.ensures c.in-Some.is in
    let within = comes_within (state_of c.self.inside) p c.self.invariant.sound.tier (first_comes c.self.inside.coming.items p first) in
    let there = has_item c.self.inside.came.items _ p c.self.invariant.sound.tier.sized.came within in
    let read = body_read c.self.inside.came.items p c.take-body.result there (c.take-body.ensures.value ∙ c.index_mut.ensures.value ∙ ap (slice_index_or c.self.inside.came.items p) (sym c.take-body.ensures.value)) in
    committed_is (state_of c.self.inside) p _ _ c.take_out.new.coming.items c.push_reserved.new.self.entries
    (body_written c.self.inside.held.items p c.take-body.result ∙ ap (slice_set (bodies_in c.self.inside.held.items) p) read)
    (body_written c.self.inside.came.items p c.take-body.new.self ∙ ap (λ o. slice_set (bodies_in c.self.inside.came.items) p (option_map arc_value o)) c.take-body.ensures.after)
    c.take_out.ensures.items c.push_reserved.ensures.entries
    ∙ ap (λ (v : TierSeen). committed v.state p) c.self.view_is

first_of_old : (c : goal.After-push_reserved) → first_coming c.args.self.now.state.coming ≡ Some c.in-Some.patch
first_of_old c =
    sym (ap (λ (v : TierSeen). first_coming v.state.coming) c.self.view_is)
    ∙ first_is c.deref.result.now c.self.inside.coming.items c.first_patch.result c.in-Some.patch c.deref.ensures.value c.first_patch.ensures c.in-Some.is

is_told : (c : goal.After-push_reserved) → c.rank_to_leave-rank.result ≡ leaving_at (committed c.args.self.now.state c.in-Some.patch) c.in-Some.patch
is_told c =
    let p = c.in-Some.patch in
    let s = state_of c.self.inside in
    let bodies = bodies_in (slice_set c.self.inside.held.items p c.take-body.result) in
    c.rank_to_leave-rank.ensures
    ∙ told_same _ bodies _ s.pinned _ (is_marked s.passed p) _ s.wishes p (ap bodies_in c.deref-2.ensures.value) c.deref-3.ensures.value c.has-is_passed.ensures c.deref-4.ensures.value
    ∙ ap (λ (u : TierState). leaving_at u p) (is_committed c)

pub invariant_of-self : goal.invariant_of-self
invariant_of-self c =
    let old = c.args.self.now.state in
    let sound = sound_of_view (tier_view c.self.inside) c.args.self.now c.self.inside.load c.self.inside.pinned_bytes c.self.inside.held_count c.self.inside.coming.cap c.self.view_is c.self.invariant.sound in
    let heap = leaving_of_view (tier_view c.self.inside) c.args.self.now c.self.inside.leaving c.self.view_is c.self.invariant.leaving in
    let comes = first_comes old.coming c.in-Some.patch (first_of_old c) in
    let came = sym (sound.tier.coming.arrived c.in-Some.patch) ∙ all_are_full old.coming c.in-Some.patch c.requires.bodies comes in
    let absent = missing_of_view (tier_view c.self.inside) c.args.self.now c.self.inside.missing c.self.view_is c.self.invariant.missing in
    record {
      sound = sound_moved (committed old c.in-Some.patch) _ _ _ _ _ _ _ _ _ (is_committed c) refl refl refl c.take_out.ensures.capacity
          (sound-committed old c.in-Some.patch _ _ _ _ sound (first_of_old c, c.requires.bodies));
      leaving = leaving_moved (committed old c.in-Some.patch) _ _ (is_committed c)
          (rw c.set.ensures (leaving-committed old c.in-Some.patch c.rank_to_leave-rank.result c.self.inside.leaving (is_told c) heap));
      missing = missing_moved (committed old c.in-Some.patch) _ _ (is_committed c) (missing-committed old c.in-Some.patch c.self.inside.missing sound.tier (comes_within old c.in-Some.patch sound.tier comes) comes came absent);
      holds = holds_moved (committed old c.in-Some.patch) _ _ (is_committed c)
          (holds-committed old c.in-Some.patch c.self.inside.holds _ c.insert.ensures.has c.insert.ensures.others c.insert.ensures.room
          (holds_of_view (tier_view c.self.inside) c.args.self.now c.self.inside.holds c.self.view_is c.self.invariant.holds));
    }

pub returns-clause-state : goal.returns-clause-state
returns-clause-state c = at_some _ _ c.in-Some.patch (first_of_old c) (is_committed c)

pub returns-clause-kept : goal.returns-clause-kept
returns-clause-kept c = (invariant_of-self c).sound.tier

pub insert-requires : goal.insert-requires
insert-requires c = room_for _ _ c.in-Some.patch c.self.invariant.holds.room (within (goal.at.insert-requires c).In-Some)

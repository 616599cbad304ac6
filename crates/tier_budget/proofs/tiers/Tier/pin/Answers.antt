-- The body is held and pinned.
use Rattle.std.proofs.Common.{◌≡◌, ◌+◌, length, ap, subst, ◌∙◌, refl, arith, true, Some, None}
use Rattle.std.specs.Prelude.{slice_set}
use Rattle.std.proofs.lemmas.Option.{slice_get_within}
use Rattle.file_model.specs.Lists.{SeenBody}
use Rattle.tier_model.specs.Changes.{with_pin}
use Rattle.tier_budget.specs.Heads.{bodies_in}
use Rattle.tier_budget.specs.TierView.{TierSeen, state_of, tier_view}
use Rattle.tier_budget.proofs.Equations.{with_pin_is}
use Rattle.tier_budget.proofs.Writes.{body_written}
use Rattle.tier_budget.proofs.SoundLaws.{sound_of_view, sound_moved, sound-with_pin, pinned_within}
use Rattle.tier_budget.proofs.LeavingSteps.{leaving_moved, leaving_of_view, leaving-with_pin}
use Rattle.tier_budget.specs.PatchSets.{HasPatch}
use Rattle.tier_budget.proofs.WordSteps.{room_for}
use Rattle.tier_budget.proofs.HoldsSteps.{holds_moved, holds_of_view, holds-with_pin}
use Rattle.tier_budget.proofs.MissingSteps.{missing_moved, missing_of_view, missing-with_pin}
use Rattle.tier_budget.proofs.tiers.Tier.pin.Goals as goal

pub overflow_add-self-3 : goal.overflow_add-self-3
overflow_add-self-3 c =
    let sound = sound_of_view (tier_view c.self.inside) c.args.self.now c.self.inside.load c.self.inside.pinned_bytes c.self.inside.held_count c.self.inside.coming.cap c.self.view_is c.self.invariant.sound in
    let same = pinned_within c.args.self.now.state _ _ _ _ sound c.requires.begins in
    let bytes = sound.bytes_are in
    let room = c.requires.room in
    let budget = ap (λ (v : TierSeen). v.state.budget) c.self.view_is in
    let size : c.size-size.result ≡ length c.args.body.value.bytes = c.size-size.ensures.size ∙ ap (λ (b : SeenBody). length b.bytes) c.deref-2.ensures in
    omega arith

pub returns-clause-state : goal.returns-clause-state
returns-clause-state c =
    let patch : c.patch-patch.result ≡ c.args.body.value.patch = c.patch-patch.ensures.patch ∙ ap (λ (b : SeenBody). b.patch) c.deref.ensures in
    with_pin_is (state_of c.self.inside) c.args.body.value _ _ (ap (λ p. slice_set c.self.inside.pinned.items p true) patch)
    (body_written c.self.inside.held.items c.patch-patch.result (Some c.args.body) ∙ ap (λ p. slice_set (bodies_in c.self.inside.held.items) p (Some c.args.body.value)) patch)
    ∙ ap (λ (v : TierSeen). with_pin v.state c.args.body.value) c.self.view_is

pub invariant_of-self : goal.invariant_of-self
invariant_of-self c =
    let old = c.args.self.now.state in
    let sound = sound_of_view (tier_view c.self.inside) c.args.self.now c.self.inside.load c.self.inside.pinned_bytes c.self.inside.held_count c.self.inside.coming.cap c.self.view_is c.self.invariant.sound in
    let size : c.size-size.result ≡ length c.args.body.value.bytes = c.size-size.ensures.size ∙ ap (λ (b : SeenBody). length b.bytes) c.deref-2.ensures in
    let heap = leaving_of_view (tier_view c.self.inside) c.args.self.now c.self.inside.leaving c.self.view_is c.self.invariant.leaving in
    let patch : c.patch-patch.result ≡ c.args.body.value.patch = c.patch-patch.ensures.patch ∙ ap (λ (b : SeenBody). b.patch) c.deref.ensures in
    let absent = missing_of_view (tier_view c.self.inside) c.args.self.now c.self.inside.missing c.self.view_is c.self.invariant.missing in
    record {
      sound = sound_moved (with_pin old c.args.body.value) _ (c.self.inside.load + length c.args.body.value.bytes) (c.self.inside.pinned_bytes + length c.args.body.value.bytes) _ _ _ _ _ _ (returns-clause-state c)
          (ap (λ n. c.self.inside.load + n) size) (ap (λ n. c.self.inside.pinned_bytes + n) size) refl refl
          (sound-with_pin old c.args.body.value _ _ _ _ sound c.requires.begins c.requires.away c.requires.body c.requires.room);
      leaving = leaving_moved (with_pin old c.args.body.value) _ _ (returns-clause-state c)
          (leaving-with_pin old c.args.body.value c.self.inside.leaving sound.tier c.requires.away heap);
      missing = missing_moved (with_pin old c.args.body.value) _ _ (returns-clause-state c) (rw (c.set.ensures, patch) (missing-with_pin old c.args.body.value c.self.inside.missing c.requires.away absent));
      holds = holds_moved (with_pin old c.args.body.value) _ _ (returns-clause-state c)
          (holds-with_pin old c.args.body.value c.self.inside.holds _ (subst (HasPatch c.insert.new.self) patch c.insert.ensures.has) c.insert.ensures.others c.insert.ensures.room
          (holds_of_view (tier_view c.self.inside) c.args.self.now c.self.inside.holds c.self.view_is c.self.invariant.holds));
    }

pub returns-clause-kept : goal.returns-clause-kept
returns-clause-kept c = (invariant_of-self c).sound.tier

pub set-requires : goal.set-requires
set-requires c =
    let patch : c.patch-patch.result ≡ c.args.body.value.patch = c.patch-patch.ensures.patch ∙ ap (λ (b : SeenBody). b.patch) c.deref.ensures in
    let sound = sound_of_view (tier_view c.self.inside) c.args.self.now c.self.inside.load c.self.inside.pinned_bytes c.self.inside.held_count c.self.inside.coming.cap c.self.view_is c.self.invariant.sound in
    let absent = missing_of_view (tier_view c.self.inside) c.args.self.now c.self.inside.missing c.self.view_is c.self.invariant.missing in
    let within = slice_get_within c.args.self.now.state.held c.args.body.value.patch None c.requires.away in
    let held = sound.tier.sized.held in
    let many = absent.all_patches in
    omega arith

pub insert-requires : goal.insert-requires
insert-requires c =
    let patch : c.patch-patch.result ≡ c.args.body.value.patch = c.patch-patch.ensures.patch ∙ ap (λ (b : SeenBody). b.patch) c.deref.ensures in
    let sound = sound_of_view (tier_view c.self.inside) c.args.self.now c.self.inside.load c.self.inside.pinned_bytes c.self.inside.held_count c.self.inside.coming.cap c.self.view_is c.self.invariant.sound in
    let holds = holds_of_view (tier_view c.self.inside) c.args.self.now c.self.inside.holds c.self.view_is c.self.invariant.holds in
    let within = slice_get_within c.args.self.now.state.held c.args.body.value.patch None c.requires.away in
    let held = sound.tier.sized.held in
    room_for _ _ c.patch-patch.result holds.room (omega arith)

-- The body is there, and so the patch that comes has it.
use Rattle.std.proofs.Common.{◌≡◌, ap, sym, ◌∙◌, refl, Some}
use Rattle.std.specs.Vec.{with_items}
use Rattle.file_model.specs.Lists.{SeenBody}
use Rattle.tier_model.specs.Places.{with_body, first_bare}
use Rattle.tier_laws.specs.ComingLaws.{bare_comes}
use Rattle.tier_laws.specs.TierLaws.{comes_within}
use Rattle.tier_model.specs.Changes.{arrived}
use Rattle.tier_budget.specs.TierView.{TierSeen, state_of, tier_view}
use Rattle.tier_budget.proofs.Equations.{arrived_is}
use Rattle.tier_budget.proofs.Writes.{written, body_written, has_place}
use Rattle.tier_budget.proofs.SoundLaws.{sound_of_view, sound_moved, sound-arrived}
use Rattle.tier_budget.proofs.LeavingSteps.{leaving_moved, leaving_of_view, leaving-arrived}
use Rattle.tier_budget.proofs.MissingSteps.{missing_moved, missing_of_view, missing-arrived}
use Rattle.tier_budget.proofs.tiers.Tier.arrive.Goals as goal

pub index_mut-requires : goal.index_mut-requires
index_mut-requires c =
    let patch : c.patch-patch.result ≡ c.args.body.value.patch = c.patch-patch.ensures.patch ∙ ap (λ (b : SeenBody). b.patch) c.deref.ensures in
    let bare : first_bare c.self.inside.coming.items ≡ Some c.patch-patch.result = ap (λ (v : TierSeen). first_bare v.state.coming) c.self.view_is ∙ c.requires.needs ∙ ap Some (sym patch) in
    let within = comes_within (state_of c.self.inside) c.patch-patch.result c.self.invariant.sound.tier (bare_comes c.self.inside.coming.items c.patch-patch.result bare) in
    has_place c.self.inside.came _ c.patch-patch.result c.self.invariant.sound.tier.sized.came within

pub returns-clause-state : goal.returns-clause-state
returns-clause-state c =
    let patch : c.patch-patch.result ≡ c.args.body.value.patch = c.patch-patch.ensures.patch ∙ ap (λ (b : SeenBody). b.patch) c.deref.ensures in
    arrived_is (state_of c.self.inside) c.patch-patch.result c.args.body.value _ (with_items c.self.inside.coming c.give_body.new.coming).items c.push_reserved.new.self.entries
    (body_written c.self.inside.came.items c.patch-patch.result (Some c.args.body))
    (written c.self.inside.coming c.deref_mut.result.now c.give_body.new.coming c.deref_mut.ensures.value c.give_body.auto.coming ∙ c.give_body.ensures ∙ ap (with_body c.patch-patch.result) c.deref_mut.ensures.value)
    c.push_reserved.ensures.entries
    ∙ ap (λ (v : TierSeen). arrived v.state c.patch-patch.result c.args.body.value) c.self.view_is
    ∙ ap (λ p. arrived c.args.self.now.state p c.args.body.value) patch

pub invariant_of-self : goal.invariant_of-self
invariant_of-self c =
    let old = c.args.self.now.state in
    let sound = sound_of_view (tier_view c.self.inside) c.args.self.now c.self.inside.load c.self.inside.pinned_bytes c.self.inside.held_count c.self.inside.coming.cap c.self.view_is c.self.invariant.sound in
    let heap = leaving_of_view (tier_view c.self.inside) c.args.self.now c.self.inside.leaving c.self.view_is c.self.invariant.leaving in
    let absent = missing_of_view (tier_view c.self.inside) c.args.self.now c.self.inside.missing c.self.view_is c.self.invariant.missing in
    record {
      sound = sound_moved (arrived old c.args.body.value.patch c.args.body.value) _ _ _ _ _ _ _ _ _ (returns-clause-state c) refl refl refl refl
          (sound-arrived old c.args.body.value.patch c.args.body.value _ _ _ _ sound c.requires.needs c.requires.body);
      leaving = leaving_moved (arrived old c.args.body.value.patch c.args.body.value) _ _ (returns-clause-state c)
          (leaving-arrived old c.args.body.value.patch c.args.body.value c.self.inside.leaving heap);
      missing = missing_moved (arrived old c.args.body.value.patch c.args.body.value) _ _ (returns-clause-state c)
          (missing-arrived old c.args.body.value.patch c.args.body.value c.self.inside.missing absent);
      holds = c.self.invariant.holds;
    }

pub returns-clause-kept : goal.returns-clause-kept
returns-clause-kept c = (invariant_of-self c).sound.tier

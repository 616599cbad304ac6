-- The wish of each patch was written, and the heap has the new ranks.
use Rattle.std.proofs.Common.{◌≡◌, ℕ, refl, sym, ap, subst, length, map, ◌∙◌, arith}
use Rattle.std.specs.List.{range_with_len}
use Rattle.std.specs.Vec.{with_items}
use Rattle.std.proofs.lemmas.List.{length-map}
use Rattle.std.proofs.lemmas.List.FromFn.{length-range_with_len}
use Rattle.tier_model.specs.Places.{is_marked}
use Rattle.tier_model.specs.Tiers.{count}
use Rattle.tier_model.specs.Changes.{ranked}
use Rattle.tier_budget.specs.Heads.{bodies_in}
use Rattle.tier_budget.specs.Heaps.{leaving_told, leaving_at, missing_told, missing_at, IsHeapOf}
use Rattle.tier_budget.specs.TierView.{TierSeen, state_of}
use Rattle.tier_budget.proofs.Equations.{ranked_is}
use Rattle.tier_budget.proofs.Writes.{written, as_many}
use Rattle.tier_budget.proofs.SoundLaws.{sound_moved, sound-ranked}
use Rattle.tier_budget.proofs.HeapSteps.{heap_kept}
use Rattle.tier_budget.proofs.LeavingSteps.{told_same}
use Rattle.tier_budget.proofs.MissingSteps.{told_same as seen_same}
use Rattle.tier_budget.proofs.tiers.Tier.rank.Goals as goal
use Rattle.tier_budget.proofs.tiers.Tier.rank.Goals.{After-copy_wishes}
use Rattle.tier_budget.proofs.tiers.Tier.rank.Given.{Over}

wishes_are : (g : Over) (c : After-copy_wishes g) → (with_items c.self.inside.wishes c.copy_wishes.new.kept).items ≡ map (g.W.Wishes.wish_of c.args.wishes.now) (range_with_len 0 (count (state_of c.self.inside)))
wishes_are g c =
    let wish = g.W.Wishes.wish_of c.args.wishes.now in
    written c.self.inside.wishes c.deref_mut.result.now c.copy_wishes.new.kept c.deref_mut.ensures.value c.copy_wishes.auto.kept ∙ c.copy_wishes.ensures
    ∙ ap (λ n. map wish (range_with_len 0 n)) (ap length c.deref_mut.ensures.value ∙ c.self.invariant.sound.tier.sized.wishes)

pub rank_leaving-requires : goal.rank_leaving-requires
rank_leaving-requires g c =
    let sized = c.self.invariant.sound.tier.sized in
    let many = c.self.invariant.leaving.all_patches in
    let few = c.self.invariant.sound.few in
    record {
      few = omega arith;
      held = as_many c.self.inside.held.items c.deref.result.now _ c.deref.ensures.value sized.held ∙ sym many;
      pinned = ap length c.deref-2.ensures.value ∙ sized.pinned ∙ sym many;
      passed = sized.passed ∙ sym many;
      wishes = ap length (c.deref-3.ensures.value ∙ wishes_are g (goal.at.rank_leaving-requires g c).After-copy_wishes)
          ∙ length-map (range_with_len 0 (count (state_of c.self.inside))) (g.W.Wishes.wish_of c.args.wishes.now) ∙ length-range_with_len 0 (count (state_of c.self.inside)) ∙ sym many;
    }

pub returns-clause-state : goal.returns-clause-state
returns-clause-state g c =
    let wish = g.W.Wishes.wish_of c.args.wishes.now in
    ranked_is (state_of c.self.inside) wish (with_items c.self.inside.wishes c.copy_wishes.new.kept).items (wishes_are g (goal.at.returns-clause-state g c).After-copy_wishes)
    ∙ ap (λ (v : TierSeen). ranked v.state wish) c.self.view_is

pub invariant_of-self : goal.invariant_of-self
invariant_of-self g c =
    let s = state_of c.self.inside in
    let wish = g.W.Wishes.wish_of c.args.wishes.now in
    let now = (with_items c.self.inside.wishes c.copy_wishes.new.kept).items in
    let told = λ (p : ℕ). leaving_told (bodies_in c.deref.result.now) c.deref-2.result.now (is_marked s.passed p) c.deref-3.result.now p in
    let absent = λ (p : ℕ). missing_told c.deref-4.result.now c.deref-5.result.now (bodies_in c.deref-6.result.now) c.deref-7.result.now (is_marked s.aside p) p in
    record {
      sound = sound_moved (ranked s wish) _ _ _ _ _ _ _ _ _ (ranked_is s wish now (wishes_are g (goal.at.invariant_of-self g c).After-copy_wishes)) refl refl refl refl (sound-ranked s wish _ _ _ _ c.self.invariant.sound);
      leaving = heap_kept (count s) told (leaving_at (record s { wishes = now })) c.rank_leaving.new.leaving
          (λ p within. told_same _ s.held _ s.pinned _ (is_marked s.passed p) _ now p (ap bodies_in c.deref.ensures.value) c.deref-2.ensures.value refl c.deref-3.ensures.value)
          (subst (λ (n : ℕ). IsHeapOf n told c.rank_leaving.new.leaving) c.self.invariant.leaving.all_patches c.rank_leaving.ensures);
      missing = heap_kept (count s) absent (missing_at (record s { wishes = now })) c.rank_missing.new.missing
          (λ p within. seen_same _ now _ s.base _ s.held _ s.coming _ (is_marked s.aside p) p c.deref-4.ensures.value c.deref-5.ensures.value (ap bodies_in c.deref-6.ensures.value) c.deref-7.ensures.value refl)
          (subst (λ (n : ℕ). IsHeapOf n absent c.rank_missing.new.missing) c.self.invariant.missing.all_patches c.rank_missing.ensures);
      holds = c.self.invariant.holds;
    }

pub returns-clause-kept : goal.returns-clause-kept
returns-clause-kept g c = (invariant_of-self g c).sound.tier

pub rank_missing-requires : goal.rank_missing-requires
rank_missing-requires g c =
    let sized = c.self.invariant.sound.tier.sized in
    let many = c.self.invariant.missing.all_patches in
    let few = c.self.invariant.sound.few in
    record {
      few = omega arith;
      wishes = ap length (c.deref-4.ensures.value ∙ wishes_are g (goal.at.rank_missing-requires g c).After-copy_wishes)
          ∙ length-map (range_with_len 0 (count (state_of c.self.inside))) (g.W.Wishes.wish_of c.args.wishes.now) ∙ length-range_with_len 0 (count (state_of c.self.inside)) ∙ sym many;
      base = ap length c.deref-5.ensures.value ∙ sized.base ∙ sym many;
      held = as_many c.self.inside.held.items c.deref-6.result.now _ c.deref-6.ensures.value sized.held ∙ sym many;
      aside = sized.aside ∙ sym many;
    }

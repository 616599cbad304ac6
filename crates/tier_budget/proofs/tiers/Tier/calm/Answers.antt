-- No patch is marked any more, and the marked ones are back in the heap.
use Rattle.std.proofs.Common.{◌≡◌, ℕ, false, length, replicate, refl, sym, ap, ◌∙◌, arith}
use Rattle.tier_model.specs.Changes.{calmed}
use Rattle.tier_budget.specs.Heads.{bodies_in}
use Rattle.tier_budget.specs.Heaps.{leaving_told}
use Rattle.tier_budget.specs.TierView.{TierSeen, state_of}
use Rattle.tier_budget.proofs.Equations.{calmed_is}
use Rattle.tier_budget.proofs.Writes.{as_many}
use Rattle.tier_budget.proofs.SoundLaws.{sound_moved, sound-calmed}
use Rattle.tier_budget.proofs.LeavingSteps.{told_same, leaving_moved, leaving-calmed}
use Rattle.tier_budget.proofs.MissingSteps.{missing_moved, missing-calmed}
use Rattle.tier_budget.proofs.tiers.Tier.calm.Goals as goal

pub put_back-requires : goal.put_back-requires
put_back-requires c =
    let sized = c.self.invariant.sound.tier.sized in
    let many = c.self.invariant.leaving.all_patches in
    record {
      patches = λ i less. let there = c.listed.ensures.patches i less in let passed = sized.passed in omega arith;
      held = as_many c.self.inside.held.items c.deref.result.now _ c.deref.ensures.value sized.held ∙ sym many;
      pinned = ap length c.deref-2.ensures.value ∙ sized.pinned ∙ sym many;
      wishes = ap length c.deref-3.ensures.value ∙ sized.wishes ∙ sym many;
    }

is_calmed : (c : goal.After-clear) → record (state_of c.self.inside) { passed = c.clear.new.self } ≡ calmed (state_of c.self.inside)
is_calmed c = calmed_is (state_of c.self.inside) c.clear.new.self (c.clear.ensures ∙ ap (λ n. replicate n false) c.self.invariant.sound.tier.sized.passed)

pub returns-clause-state : goal.returns-clause-state
returns-clause-state c = is_calmed c ∙ ap (λ (v : TierSeen). calmed v.state) c.self.view_is

pub invariant_of-self : goal.invariant_of-self
invariant_of-self c =
    let s = state_of c.self.inside in
    let told = leaving_told (bodies_in c.deref.result.now) c.deref-2.result.now false c.deref-3.result.now in
    let is_told : (p : ℕ) → told p ≡ leaving_told s.held s.pinned false s.wishes p = λ p. told_same _ s.held _ s.pinned false false _ s.wishes p (ap bodies_in c.deref.ensures.value) c.deref-2.ensures.value refl c.deref-3.ensures.value in
    record {
      sound = sound_moved (calmed s) _ _ _ _ _ _ _ _ _ (is_calmed c) refl refl refl refl (sound-calmed s _ _ _ _ c.self.invariant.sound);
      leaving = leaving_moved (calmed s) _ _ (is_calmed c)
          (leaving-calmed s c.listed.result.now told c.self.inside.leaving c.put_back.new.leaving c.listed.ensures is_told c.put_back.ensures c.self.invariant.leaving);
      missing = missing_moved (calmed s) _ _ (is_calmed c) (missing-calmed s c.self.inside.missing c.self.invariant.missing);
      holds = c.self.invariant.holds;
    }

pub returns-clause-kept : goal.returns-clause-kept
returns-clause-kept c = (invariant_of-self c).sound.tier

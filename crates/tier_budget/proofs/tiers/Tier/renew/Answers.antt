-- No patch is marked any more, and those that were put aside are back in the heap.
use Rattle.std.proofs.Common.{◌≡◌, ℕ, false, length, replicate, refl, sym, ap, ◌∙◌, arith}
use Rattle.tier_model.specs.Changes.{none_marked, calmed, renewed}
use Rattle.tier_budget.specs.Heads.{bodies_in}
use Rattle.tier_budget.specs.Heaps.{missing_told}
use Rattle.tier_budget.specs.TierView.{TierSeen, state_of}
use Rattle.tier_budget.proofs.Equations.{renewed_is}
use Rattle.tier_budget.proofs.Writes.{as_many}
use Rattle.tier_budget.proofs.SoundLaws.{sound_moved, sound-renewed}
use Rattle.tier_budget.proofs.MissingSteps.{told_same, missing-renewed}
use Rattle.tier_budget.proofs.tiers.Tier.renew.Goals as goal
use Rattle.tier_budget.proofs.tiers.Tier.renew.Goals.{After-clear}

is_calm : (c : After-clear) → state_of c.self.inside ≡ calmed c.args.self.now.state
is_calm c = ap (λ (v : TierSeen). v.state) c.self.view_is ∙ c.calm.ensures.state

none_is_aside : (c : After-clear) → c.clear.new.self ≡ none_marked (state_of c.self.inside)
none_is_aside c = c.clear.ensures ∙ ap (λ n. replicate n false) c.self.invariant.sound.tier.sized.aside

pub seek_again-requires : goal.seek_again-requires
seek_again-requires c =
    let sized = c.self.invariant.sound.tier.sized in
    let many = c.self.invariant.missing.all_patches in
    record {
      patches = λ i less. let there = c.listed.ensures.patches i less in let aside = sized.aside in omega arith;
      wishes = ap length c.deref.ensures.value ∙ sized.wishes ∙ sym many;
      base = ap length c.deref-2.ensures.value ∙ sized.base ∙ sym many;
      held = as_many c.self.inside.held.items c.deref-3.result.now _ c.deref-3.ensures.value sized.held ∙ sym many;
    }

pub returns-clause-state : goal.returns-clause-state
returns-clause-state c =
    let before = (goal.at.returns-clause-state c).After-clear in
    renewed_is c.args.self.now.state (state_of c.self.inside) c.args.version c.clear.new.self (is_calm before) (none_is_aside before)

pub invariant_of-self : goal.invariant_of-self
invariant_of-self c =
    let old = c.args.self.now.state in
    let s = state_of c.self.inside in
    let before = (goal.at.invariant_of-self c).After-clear in
    let told = missing_told c.deref.result.now c.deref-2.result.now (bodies_in c.deref-3.result.now) c.deref-4.result.now false in
    let is_told : (p : ℕ) → told p ≡ missing_told s.wishes s.base s.held s.coming false p = λ p. told_same _ s.wishes _ s.base _ s.held _ s.coming false false p c.deref.ensures.value c.deref-2.ensures.value (ap bodies_in c.deref-3.ensures.value) c.deref-4.ensures.value refl in
    record {
      sound = sound_moved (renewed old c.args.version) _ _ _ _ _ _ _ _ _ (returns-clause-state c) refl refl refl refl
          (sound-renewed old c.args.version _ _ _ _ (sound_moved s (calmed old) _ _ _ _ _ _ _ _ (sym (is_calm before)) refl refl refl refl c.self.invariant.sound));
      leaving = c.self.invariant.leaving;
      missing = missing-renewed s c.args.version c.clear.new.self c.listed.result.now told c.self.inside.missing c.seek_again.new.missing (none_is_aside before) c.listed.ensures is_told c.seek_again.ensures c.self.invariant.missing;
      holds = c.self.invariant.holds;
    }

pub returns-clause-kept : goal.returns-clause-kept
returns-clause-kept c = (invariant_of-self c).sound.tier

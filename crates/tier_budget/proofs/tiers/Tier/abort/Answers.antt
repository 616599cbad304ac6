-- The patch comes no more, and is put aside where it couldn't be read.
use Rattle.std.proofs.Common.{◌≡◌, ◌-◌, ◌<◌, ◌≤◌, ℕ, List, [], ◌∷◌, ◌++◌, Option, Some, length, ap, sym, subst, ◌∙◌, refl, arith}
use Rattle.tier_model.specs.declared.turns.Coming.{Coming}
use Rattle.tier_model.specs.Places.{is_marked, first_bare}
use Rattle.tier_model.specs.Tiers.{TierState, count, size}
use Rattle.tier_model.specs.Changes.{aborted}
use Rattle.tier_laws.specs.ComingLaws.{bare_comes}
use Rattle.tier_laws.specs.TierLaws.{comes_within}
use Rattle.tier_budget.specs.Heads.{bodies_in}
use Rattle.tier_budget.specs.Heaps.{missing_at}
use Rattle.tier_budget.specs.TierView.{TierSeen, state_of, tier_view}
use Rattle.tier_budget.proofs.Equations.{aborted_is}
use Rattle.tier_budget.proofs.SumLaws.{size_read}
use Rattle.tier_budget.proofs.Writes.{as_many, at_some}
use Rattle.tier_budget.proofs.SoundLaws.{sound_of_view, sound_moved, sound-aborted, size_of_coming}
use Rattle.tier_budget.proofs.LeavingSteps.{leaving_moved, leaving_of_view, leaving-aborted}
use Rattle.tier_budget.proofs.MissingSteps.{told_same, missing_moved, missing_of_view, missing-aborted}
use Rattle.tier_budget.proofs.tiers.Tier.abort.Goals as goal
use Rattle.tier_budget.proofs.tiers.Tier.abort.Goals.{In-Some}

bare_is : (seen inside : List Coming) (o : Option ℕ) (p : ℕ) → seen ≡ inside → o ≡ first_bare seen → o ≡ Some p → first_bare inside ≡ Some p
bare_is seen inside o p same told is = ap first_bare (sym same) ∙ sym told ∙ is

within : (c : In-Some) → c.in-Some.patch < count (state_of c.self.inside)
within c =
    comes_within (state_of c.self.inside) c.in-Some.patch c.self.invariant.sound.tier
    (bare_comes c.self.inside.coming.items c.in-Some.patch
    (bare_is c.deref.result.now c.self.inside.coming.items c.first_without_body.result c.in-Some.patch c.deref.ensures.value c.first_without_body.ensures c.in-Some.is))

pub index-requires : goal.index-requires
index-requires c = subst (λ (n : ℕ). c.in-Some.patch < n) (sym c.self.inside.sizes.ok.0) (within (goal.at.index-requires c).In-Some)

pub overflow_sub-self : goal.overflow_sub-self
overflow_sub-self c =
    let s = state_of c.self.inside in
    let bare = bare_is c.deref.result.now c.self.inside.coming.items c.first_without_body.result c.in-Some.patch c.deref.ensures.value c.first_without_body.ensures c.in-Some.is in
    let within = comes_within s c.in-Some.patch c.self.invariant.sound.tier (bare_comes c.self.inside.coming.items c.in-Some.patch bare) in
    let is = size_read (tier_view c.self.inside) (tier_view c.self.inside) c.in-Some.patch c.index.result.now refl within c.index.ensures in
    let less = size_of_coming s c.in-Some.patch _ _ _ _ c.self.invariant.sound bare in
    subst (λ (n : ℕ). n ≤ c.self.inside.load) (sym is) less

pub put_aside-requires : goal.put_aside-requires
put_aside-requires c = subst (λ (n : ℕ). c.in-Some.patch < n) (sym c.self.invariant.sound.tier.sized.aside) (within (goal.at.put_aside-requires c).In-Some)

pub has-is_aside-requires : goal.has-is_aside-requires
has-is_aside-requires c = subst (λ (n : ℕ). c.in-Some.patch < n) (sym (c.put_aside.ensures.many ∙ c.self.invariant.sound.tier.sized.aside)) (within (goal.at.has-is_aside-requires c).In-Some)

pub rank_of_missing-rank-requires : goal.rank_of_missing-rank-requires
rank_of_missing-rank-requires c =
    let there = within (goal.at.rank_of_missing-rank-requires c).In-Some in
    let sized = c.self.invariant.sound.tier.sized in
    record {
      wishes = subst (λ (n : ℕ). c.in-Some.patch < n) (sym (ap length c.deref-2.ensures.value ∙ sized.wishes)) there;
      base = subst (λ (n : ℕ). c.in-Some.patch < n) (sym (ap length c.deref-3.ensures.value ∙ sized.base)) there;
      held = subst (λ (n : ℕ). c.in-Some.patch < n) (sym (as_many c.self.inside.held.items c.deref-4.result.now _ c.deref-4.ensures.value sized.held)) there;
    }

pub set-requires : goal.set-requires
set-requires c =
    let there = within (goal.at.set-requires c).In-Some in
    let many = c.self.invariant.missing.all_patches in
    omega arith

is_aborted : (c : goal.After-push_reserved) → record (state_of c.self.inside) {
  aside = c.put_aside.new.aside;
  coming = c.take_out.new.coming.items;
  journal = c.push_reserved.new.self.entries;
} ≡ aborted c.args.self.now.state c.in-Some.patch c.args.why
is_aborted c =
    let p = c.in-Some.patch in
    aborted_is (state_of c.self.inside) p c.args.why c.put_aside.new.aside c.take_out.new.coming.items c.push_reserved.new.self.entries
    c.put_aside.ensures.after
    c.take_out.ensures.items
    (c.push_reserved.ensures.entries ∙ ap (λ entry. c.self.inside.journal.entries ++ entry ∷ []) c.entry_of.ensures)
    ∙ ap (λ (v : TierSeen). aborted v.state p c.args.why) c.self.view_is

is_told : (c : goal.After-push_reserved) → c.rank_of_missing-rank.result ≡ missing_at (aborted c.args.self.now.state c.in-Some.patch c.args.why) c.in-Some.patch
is_told c =
    let p = c.in-Some.patch in
    let s = state_of c.self.inside in
    c.rank_of_missing-rank.ensures
    ∙ told_same _ s.wishes _ s.base _ s.held _ c.take_out.new.coming.items _ (is_marked c.put_aside.new.aside p) p c.deref-2.ensures.value c.deref-3.ensures.value (ap bodies_in c.deref-4.ensures.value) c.deref-5.ensures.value c.has-is_aside.ensures
    ∙ ap (λ (u : TierState). missing_at u p) (is_aborted c)

bare_of_old : (c : goal.After-push_reserved) → first_bare c.args.self.now.state.coming ≡ Some c.in-Some.patch
bare_of_old c =
    sym (ap (λ (v : TierSeen). first_bare v.state.coming) c.self.view_is)
    ∙ bare_is c.deref.result.now c.self.inside.coming.items c.first_without_body.result c.in-Some.patch c.deref.ensures.value c.first_without_body.ensures c.in-Some.is

pub invariant_of-self : goal.invariant_of-self
invariant_of-self c =
    let old = c.args.self.now.state in
    let p = c.in-Some.patch in
    let sound = sound_of_view (tier_view c.self.inside) c.args.self.now c.self.inside.load c.self.inside.pinned_bytes c.self.inside.held_count c.self.inside.coming.cap c.self.view_is c.self.invariant.sound in
    let within = comes_within old p sound.tier (bare_comes old.coming p (bare_of_old c)) in
    let heap = leaving_of_view (tier_view c.self.inside) c.args.self.now c.self.inside.leaving c.self.view_is c.self.invariant.leaving in
    let absent = missing_of_view (tier_view c.self.inside) c.args.self.now c.self.inside.missing c.self.view_is c.self.invariant.missing in
    record {
      sound = sound_moved (aborted old p c.args.why) _ (c.self.inside.load - size old p) _ _ _ _ _ _ _ (is_aborted c)
          (ap (λ n. c.self.inside.load - n) (size_read (tier_view c.self.inside) c.args.self.now p c.index.result.now c.self.view_is within c.index.ensures)) refl refl c.take_out.ensures.capacity
          (sound-aborted old p c.args.why _ _ _ _ sound (bare_of_old c));
      leaving = leaving_moved (aborted old p c.args.why) _ _ (is_aborted c)
          (leaving-aborted old p c.args.why c.self.inside.leaving heap);
      missing = missing_moved (aborted old p c.args.why) _ _ (is_aborted c) (rw c.set.ensures (missing-aborted old p c.args.why c.rank_of_missing-rank.result c.self.inside.missing (is_told c) absent));
      holds = c.self.invariant.holds;
    }

pub returns-clause-state : goal.returns-clause-state
returns-clause-state c = at_some _ _ c.in-Some.patch (bare_of_old c) (is_aborted c)

pub returns-clause-kept : goal.returns-clause-kept
returns-clause-kept c = (invariant_of-self c).sound.tier

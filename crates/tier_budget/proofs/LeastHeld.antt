-- The least of the heap of the patches that may leave, where it is below the given patch, is the lowest that may leave.
use Rattle.std.proofs.Common.{◌≡◌, ◌≢◌, ℕ, ◌<◌, inl, inr, Bool, true, false, not, ◌&&◌, List, Option, Some, refl, sym, subst, ◌∙◌, arith}
use Rattle.std.proofs.lemmas.Bool.{cases_eq, cases_Bool, both_ways}
use Rattle.std.proofs.lemmas.Option.{same_Some}
use Rattle.tier_heap.specs.Entries.{is_above, IsLeast}
use Rattle.tier_heap.specs.Laws.{id_in_range}
use Rattle.tier_model.specs.Places.{is_marked}
use Rattle.tier_model.specs.Tiers.{TierState, count, kept_wish, is_held}
use Rattle.tier_model.specs.Ranks.{outranks}
use Rattle.tier_laws.specs.RankLaws.{outranks_is_ranking}
use Rattle.tier_model.specs.Choices.{IsTopmost, may_leave}
use Rattle.tier_budget.specs.Heaps.{leaving_rank, IsLeaving}

-- a patch that may leave has its wish for a rank
ranked_if_may : (held pinned passed below : Bool) (wish : ℕ) → (held && (not pinned && (not passed && below))) ≡ true → (leaving_rank held pinned passed wish ≡ Some wish) × (below ≡ true)
ranked_if_may false pinned passed below wish may = absurd (cc)
ranked_if_may true true passed below wish may = absurd (cc)
ranked_if_may true false true below wish may = absurd (cc)
ranked_if_may true false false below wish may = (refl, may)

-- a patch with a rank may leave for one that is above it, and the rank is its wish
may_if_ranked : (held pinned passed below : Bool) (wish rank : ℕ) → leaving_rank held pinned passed wish ≡ Some rank → ((held && (not pinned && (not passed && below))) ≡ below) × (wish ≡ rank)
may_if_ranked false pinned passed below wish rank is = absurd (cc)
may_if_ranked true true passed below wish rank is = absurd (cc)
may_if_ranked true false true below wish rank is = absurd (cc)
may_if_ranked true false false below wish rank is = (refl, same_Some wish rank is)

-- what is told of the least entry
record IsLowest (s : TierState) (below p : ℕ) : Type 0 where
  within : p < count s
  may : may_leave s below p ≡ outranks (kept_wish s) below p
  under : (q : ℕ) → q < count s → may_leave s below q ≡ true → q ≢ p → outranks (kept_wish s) q p ≡ true

lowest : (s : TierState) (heap : List (Option ℕ)) (below p : ℕ) → IsLeaving s heap → IsLeast heap p → IsLowest s below p
unfolding outranks
lowest s heap below p is least =
    let within : p < count s = (let there = id_in_range heap p (rw least.entry refl) in let many = is.all_patches in omega arith) in
    let ranked = may_if_ranked (is_held s p) (is_marked s.pinned p) (is_marked s.passed p) (outranks (kept_wish s) below p) (kept_wish s p) least.rank (sym (is.each p within) ∙ least.entry) in
    record {
      within = within;
      may = ranked.0;
      under = λ q less may ne.
          let other = ranked_if_may (is_held s q) (is_marked s.pinned q) (is_marked s.passed q) (outranks (kept_wish s) below q) (kept_wish s q) may in
          subst (λ (w : ℕ). is_above (q, kept_wish s q) (p, w) ≡ true) (sym ranked.1) (least.below q (kept_wish s q) (is.each q less ∙ other.0) ne);
    }

pub least_leaves : (s : TierState) (heap : List (Option ℕ)) (below p : ℕ) → IsLeaving s heap → IsLeast heap p → outranks (kept_wish s) below p ≡ true → IsTopmost (count s) (may_leave s below) (λ a b. outranks (kept_wish s) b a) p
least_leaves s heap below p is least above =
    let low = lowest s heap below p is least in
    record { within = low.within; passes = low.may ∙ above; beats = low.under }

pub least_stays : (s : TierState) (heap : List (Option ℕ)) (below p : ℕ) → IsLeaving s heap → IsLeast heap p → outranks (kept_wish s) below p ≡ false → (q : ℕ) → q < count s → may_leave s below q ≡ false
least_stays s heap below p is least under q within = elim (cases_Bool (may_leave s below q)) [
  | inr never ↦ never
  | inl may ↦
      let low = lowest s heap below p is least in
      let ranking = outranks_is_ranking (kept_wish s) in
      let over : outranks (kept_wish s) below q ≡ true = (ranked_if_may (is_held s q) (is_marked s.pinned q) (is_marked s.passed q) (outranks (kept_wish s) below q) (kept_wish s q) may).1 in
      absurd (both_ways (outranks (kept_wish s) below p) under (elim (cases_eq q p) [
        | inl same ↦ subst (λ (m : ℕ). outranks (kept_wish s) below m ≡ true) same over
        | inr ne ↦ ranking.chain below q p over (low.under q within may ne)
      ]))
]

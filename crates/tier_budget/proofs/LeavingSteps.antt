-- The heap of the patches that may leave goes along with each change of the tier.
use Rattle.std.proofs.Common.{◌≡◌, ℕ, zero, suc, ◌<◌, inl, inr, Bool, true, false, List, length, replicate, Option, Some, None, is_some, refl, sym, ap, subst, ◌∙◌, arith}
use Rattle.std.specs.Prelude.{slice_get, slice_index, slice_index_or, slice_set}
use Rattle.std.proofs.lemmas.Bool.{cases_eq, cases_Bool}
use Rattle.std.proofs.lemmas.List.{length-map, get_or-set_same, get_or-set_other, get_or-replicate, length-replicate}
use Rattle.file_model.specs.Lists.{IndexLists, SeenBody, body_size}
use Rattle.tier_heap.specs.Laws.{rank_at-replicate}
use Rattle.tier_model.specs.declared.turns.Abort.{Abort}
use Rattle.std.proofs.lemmas.Option.{slice_get_within}
use Rattle.tier_laws.specs.BodyLaws.{away_not_there}
use Rattle.tier_model.specs.Places.{is_marked}
use Rattle.tier_model.specs.Tiers.{TierState, count, kept_wish, is_held, IsTier}
use Rattle.tier_model.specs.Changes.{fresh, reserved, arrived, aborted, committed, dropped, passed_over, calmed, with_pin}
use Rattle.tier_budget.specs.Marked.{AreListed}
use Rattle.tier_budget.specs.Heaps.{leaving_rank, leaving_told, leaving_at, IsLeaving, Refreshes}
use Rattle.tier_budget.specs.TierView.{TierSeen}
use Rattle.tier_budget.proofs.HeapSteps.{heap_kept, heap_set}

pub leaving_moved : (s u : TierState) (heap : List (Option ℕ)) → u ≡ s → IsLeaving s heap → IsLeaving u heap
leaving_moved s u heap same is = subst (λ (t : TierState). IsLeaving t heap) (sym same) is

pub leaving_of_view : (v w : TierSeen) (heap : List (Option ℕ)) → v ≡ w → IsLeaving v.state heap → IsLeaving w.state heap
leaving_of_view v w heap same is = subst (λ (u : TierSeen). IsLeaving u.state heap) same is

-- ---- changes that move no patch to or from the heap

pub leaving-reserved : (s : TierState) (p : ℕ) (heap : List (Option ℕ)) → IsLeaving s heap → IsLeaving (reserved s p) heap
unfolding reserved
leaving-reserved s p heap is = is

pub leaving-arrived : (s : TierState) (p : ℕ) (body : SeenBody) (heap : List (Option ℕ)) → IsLeaving s heap → IsLeaving (arrived s p body) heap
unfolding arrived
leaving-arrived s p body heap is = is

pub leaving-aborted : (s : TierState) (p : ℕ) (why : Abort) (heap : List (Option ℕ)) → IsLeaving s heap → IsLeaving (aborted s p why) heap
unfolding aborted
leaving-aborted s p why heap is = is

-- a patch that isn't held, or is pinned, may not leave
stays_unheld : (held pinned passed : Bool) (wish : ℕ) → held ≡ false → leaving_rank held pinned passed wish ≡ None
stays_unheld held pinned passed wish is = rw is

stays_pinned : (held pinned passed : Bool) (wish : ℕ) → pinned ≡ true → leaving_rank held pinned passed wish ≡ None
stays_pinned false pinned passed wish is = refl
stays_pinned true pinned passed wish is = rw is

stays_passed : (held pinned passed : Bool) (wish : ℕ) → passed ≡ true → leaving_rank held pinned passed wish ≡ None
stays_passed false pinned passed wish is = refl
stays_passed true true passed wish is = refl
stays_passed true false passed wish is = rw is

rank_same : (h h' q q' a a' : Bool) (w : ℕ) → h ≡ h' → q ≡ q' → a ≡ a' → leaving_rank h q a w ≡ leaving_rank h' q' a' w
rank_same h h' q q' a a' w held pinned passed = rw (held, pinned, passed)

-- a patch that wasn't held is pinned
pub leaving-with_pin : (s : TierState) (body : SeenBody) (heap : List (Option ℕ)) → IsTier s → slice_get s.held body.patch ≡ Some None → IsLeaving s heap → IsLeaving (with_pin s body) heap
unfolding with_pin
leaving-with_pin s body heap tier away is =
    let p = body.patch in
    let within : p < length s.pinned = (let there = slice_get_within s.held p None away in let held = tier.sized.held in let pinned = tier.sized.pinned in omega arith) in
    heap_kept (count s) (leaving_at s) (leaving_at (with_pin s body)) heap
    (λ q less. elim (cases_eq q p) [
      | inl same ↦
          stays_unheld (is_held s q) (is_marked s.pinned q) (is_marked s.passed q) (kept_wish s q) (subst (λ (m : ℕ). is_held s m ≡ false) (sym same) (away_not_there s.held p away))
          ∙ sym (stays_pinned (is_held (with_pin s body) q) (is_marked (slice_set s.pinned p true) q) (is_marked s.passed q) (kept_wish s q)
          (subst (λ (m : ℕ). is_marked (slice_set s.pinned p true) m ≡ true) (sym same) (get_or-set_same s.pinned p true false within)))
      | inr ne ↦ rank_same (is_held s q) (is_held (with_pin s body) q) (is_marked s.pinned q) (is_marked (slice_set s.pinned p true) q) (is_marked s.passed q) (is_marked s.passed q) (kept_wish s q)
          (ap (λ (o : Option SeenBody). is_some o) (sym (get_or-set_other s.held p q (Some body) None ne))) (sym (get_or-set_other s.pinned p q true false ne)) refl
    ]) is

-- ---- changes that move one patch

pub leaving-committed : (s : TierState) (p : ℕ) (o : Option ℕ) (heap : List (Option ℕ)) → o ≡ leaving_at (committed s p) p → IsLeaving s heap → IsLeaving (committed s p) (slice_set heap p o)
unfolding committed
leaving-committed s p o heap told is =
    let body = slice_index_or s.came p None in
    heap_set (count s) (leaving_at s) (leaving_at (committed s p)) heap p o told
    (λ q ne. rank_same (is_held s q) (is_held (committed s p) q) (is_marked s.pinned q) (is_marked s.pinned q) (is_marked s.passed q) (is_marked s.passed q) (kept_wish s q)
    (ap (λ (b : Option SeenBody). is_some b) (sym (get_or-set_other s.held p q body None ne))) refl refl)
    is

pub leaving-dropped : (s : TierState) (p : ℕ) (heap : List (Option ℕ)) → IsTier s → p < count s → IsLeaving s heap → IsLeaving (dropped s p) (slice_set heap p None)
unfolding dropped
leaving-dropped s p heap tier within is =
    let there : p < length s.held = (let held = tier.sized.held in omega arith) in
    heap_set (count s) (leaving_at s) (leaving_at (dropped s p)) heap p None
    (sym (stays_unheld (is_held (dropped s p) p) (is_marked s.pinned p) (is_marked s.passed p) (kept_wish s p) (ap (λ (b : Option SeenBody). is_some b) (get_or-set_same s.held p None None there))))
    (λ q ne. rank_same (is_held s q) (is_held (dropped s p) q) (is_marked s.pinned q) (is_marked s.pinned q) (is_marked s.passed q) (is_marked s.passed q) (kept_wish s q)
    (ap (λ (b : Option SeenBody). is_some b) (sym (get_or-set_other s.held p q None None ne))) refl refl)
    is

pub leaving-passed_over : (s : TierState) (p : ℕ) (heap : List (Option ℕ)) → IsTier s → p < count s → IsLeaving s heap → IsLeaving (passed_over s p) (slice_set heap p None)
unfolding passed_over
leaving-passed_over s p heap tier within is =
    let there : p < length s.passed = (let passed = tier.sized.passed in omega arith) in
    let now = slice_set s.passed p true in
    heap_set (count s) (leaving_at s) (leaving_at (passed_over s p)) heap p None
    (sym (stays_passed (is_held s p) (is_marked s.pinned p) (is_marked now p) (kept_wish s p) (get_or-set_same s.passed p true false there)))
    (λ q ne. rank_same (is_held s q) (is_held s q) (is_marked s.pinned q) (is_marked s.pinned q) (is_marked s.passed q) (is_marked now q) (kept_wish s q) refl refl (sym (get_or-set_other s.passed p q true false ne)))
    is

-- ---- changes that move many

pub leaving-calmed : (s : TierState) (listed : List ℕ) (told : ℕ → Option ℕ) (heap new : List (Option ℕ)) → AreListed s.passed listed → ((p : ℕ) → told p ≡ leaving_told s.held s.pinned false s.wishes p)
    → Refreshes heap (length listed) listed told new → IsLeaving s heap → IsLeaving (calmed s) new
unfolding calmed
leaving-calmed s listed told heap new are_listed is_told refreshes is = record {
  all_patches = refreshes.all_patches ∙ is.all_patches;
  each = λ p within.
      let cleared = get_or-replicate (count s) p false false within in
      let rank = λ (passed : Bool). leaving_rank (is_held s p) (is_marked s.pinned p) passed (kept_wish s p) in
      elim (refreshes.each p) [
        | inl set ↦ set ∙ is_told p ∙ ap rank (sym cleared)
        | inr left ↦ left.1 ∙ is.each p within ∙ ap rank (elim (cases_Bool (is_marked s.passed p)) [
          | inl marked ↦ absurd (let among = are_listed.every p marked in left.0 among.place among.within among.there)
          | inr unmarked ↦ unmarked ∙ sym cleared
        ])
      ];
}

-- ---- what the code reads

pub told_same : (held bodies : List (Option SeenBody)) (pinned pins : List Bool) (passed mark : Bool) (wishes wants : List ℕ) (p : ℕ) → held ≡ bodies → pinned ≡ pins → passed ≡ mark → wishes ≡ wants → leaving_told held pinned passed wishes p ≡ leaving_told bodies pins mark wants p
told_same held bodies pinned pins passed mark wishes wants p a b d e = rw (a, b, d, e)

-- ---- a new tier

none_held : (n p : ℕ) → is_some (slice_index_or (replicate {A = Option SeenBody} n None) p None) ≡ false
none_held zero zero = refl
none_held zero (suc p) = refl
none_held (suc n) zero = refl
none_held (suc n) (suc p) = none_held n p

pub leaving-fresh : (index : IndexLists) (budget width : ℕ) (heap : List (Option ℕ)) → heap ≡ replicate (length index.fields) None → IsLeaving (fresh index budget width) heap
unfolding fresh
leaving-fresh index budget width heap is = rw is (record {
  all_patches = length-replicate (length index.fields) None ∙ sym (length-map index.fields (body_size index.version));
  each = λ p within.
      let n = length index.fields in
      rank_at-replicate n p ∙ sym (stays_unheld (is_some (slice_index_or (replicate {A = Option SeenBody} n None) p None)) (is_marked (replicate n false) p) (is_marked (replicate n false) p) (slice_index (replicate n 0) p) (none_held n p));
})

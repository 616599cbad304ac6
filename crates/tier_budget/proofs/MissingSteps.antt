-- The heap of the patches that are missing goes along with each change of the tier.
use Rattle.std.proofs.Common.{◌≡◌, ◌≢◌, ℕ, ◌<◌, inl, inr, Bool, true, false, not, ◌&&◌, ltb, List, length, replicate, Option, Some, None, is_some, refl, sym, ap, subst, ◌∙◌, arith}
use Rattle.std.specs.Prelude.{cond, slice_get, slice_index_or, slice_set}
use Rattle.std.proofs.lemmas.Bool.{cases_eq, cases_Bool}
use Rattle.std.proofs.lemmas.List.{length-map, get_or-set_same, get_or-set_other, get_or-replicate, length-replicate}
use Rattle.std.proofs.lemmas.Option.{slice_get_within}
use Rattle.file_model.specs.Lists.{IndexLists, SeenBody, body_size}
use Rattle.tier_heap.specs.Laws.{rank_at-replicate}
use Rattle.tier_model.specs.declared.turns.Abort.{Abort}
use Rattle.tier_model.specs.declared.turns.Abort.TheVariants as reasons
use Rattle.tier_model.specs.declared.turns.Coming.{Coming}
use Rattle.tier_model.specs.Places.{is_marked, is_coming}
use Rattle.tier_model.specs.Tiers.{TierState, count, kept_wish, is_held, IsTier}
use Rattle.tier_model.specs.Changes.{fresh, reserved, arrived, aside_after, aborted, committed, dropped, passed_over, none_marked, calmed, with_pin}
use Rattle.tier_laws.specs.ComingLaws.{reserved_comes, reserved_others, arrived_comes, gone_others}
use Rattle.tier_budget.specs.Marked.{AreListed}
use Rattle.tier_budget.specs.Heaps.{missing_rank, missing_told, missing_at, IsMissing, Refreshes}
use Rattle.tier_budget.specs.TierView.{TierSeen}
use Rattle.tier_budget.proofs.HeapSteps.{heap_kept, heap_set}

pub missing_moved : (s u : TierState) (heap : List (Option ℕ)) → u ≡ s → IsMissing s heap → IsMissing u heap
missing_moved s u heap same is = subst (λ (t : TierState). IsMissing t heap) (sym same) is

pub missing_of_view : (v w : TierSeen) (heap : List (Option ℕ)) → v ≡ w → IsMissing v.state heap → IsMissing w.state heap
missing_of_view v w heap same is = subst (λ (u : TierSeen). IsMissing u.state heap) same is

-- ---- which ranks are the same

rank_same : (w : ℕ) (b h h' c c' a a' : Bool) → h ≡ h' → c ≡ c' → a ≡ a' → missing_rank w b h c a ≡ missing_rank w b h' c' a'
rank_same w b h h' c c' a a' held coming aside = rw (held, coming, aside)

test_of_held : (wished base held coming aside : Bool) → held ≡ true → (wished && (not base && (not held && (not coming && not aside)))) ≡ false
test_of_held false base held coming aside is = refl
test_of_held true true held coming aside is = refl
test_of_held true false held coming aside is = rw is

test_of_coming : (wished base held coming aside : Bool) → coming ≡ true → (wished && (not base && (not held && (not coming && not aside)))) ≡ false
test_of_coming false base held coming aside is = refl
test_of_coming true true held coming aside is = refl
test_of_coming true false true coming aside is = refl
test_of_coming true false false coming aside is = rw is

none_held : (w : ℕ) (b h c a : Bool) → h ≡ true → missing_rank w b h c a ≡ None
none_held w b h c a is = ap (λ (t : Bool). cond t (Some w) None) (test_of_held (ltb 0 w) b h c a is)

none_coming : (w : ℕ) (b h c a : Bool) → c ≡ true → missing_rank w b h c a ≡ None
none_coming w b h c a is = ap (λ (t : Bool). cond t (Some w) None) (test_of_coming (ltb 0 w) b h c a is)

none_wished : (w : ℕ) (b h c a : Bool) → w ≡ 0 → missing_rank w b h c a ≡ None
none_wished w b h c a is = rw is

-- ---- changes that move no patch to or from the heap

pub missing-arrived : (s : TierState) (p : ℕ) (body : SeenBody) (heap : List (Option ℕ)) → IsMissing s heap → IsMissing (arrived s p body) heap
unfolding arrived
missing-arrived s p body heap is =
    heap_kept (count s) (missing_at s) (missing_at (arrived s p body)) heap
    (λ q less. rank_same (kept_wish s q) (is_marked s.base q) (is_held s q) (is_held s q) (is_coming s.coming q) (is_coming (arrived s p body).coming q) (is_marked s.aside q) (is_marked s.aside q) refl (sym (arrived_comes p s.coming q)) refl)
    is

pub missing-passed_over : (s : TierState) (p : ℕ) (heap : List (Option ℕ)) → IsMissing s heap → IsMissing (passed_over s p) heap
unfolding passed_over
missing-passed_over s p heap is = is

pub missing-calmed : (s : TierState) (heap : List (Option ℕ)) → IsMissing s heap → IsMissing (calmed s) heap
unfolding calmed
missing-calmed s heap is = is

-- a patch that came is held
pub missing-committed : (s : TierState) (p : ℕ) (heap : List (Option ℕ)) → IsTier s → p < count s → is_coming s.coming p ≡ true → is_some (slice_index_or s.came p None) ≡ true → IsMissing s heap → IsMissing (committed s p) heap
unfolding committed
missing-committed s p heap tier within comes came is =
    let body = slice_index_or s.came p None in
    let there : p < length s.held = (let held = tier.sized.held in omega arith) in
    let now = committed s p in
    heap_kept (count s) (missing_at s) (missing_at now) heap
    (λ q less. elim (cases_eq q p) [
      | inl same ↦
          none_coming (kept_wish s q) (is_marked s.base q) (is_held s q) (is_coming s.coming q) (is_marked s.aside q) (subst (λ (m : ℕ). is_coming s.coming m ≡ true) (sym same) comes)
          ∙ sym (none_held (kept_wish s q) (is_marked s.base q) (is_held now q) (is_coming now.coming q) (is_marked s.aside q)
          (subst (λ (m : ℕ). is_held now m ≡ true) (sym same) (ap (λ (b : Option SeenBody). is_some b) (get_or-set_same s.held p body None there) ∙ came)))
      | inr ne ↦ rank_same (kept_wish s q) (is_marked s.base q) (is_held s q) (is_held now q) (is_coming s.coming q) (is_coming now.coming q) (is_marked s.aside q) (is_marked s.aside q)
          (ap (λ (b : Option SeenBody). is_some b) (sym (get_or-set_other s.held p q body None ne))) (sym (gone_others p s.coming q ne)) refl
    ]) is

-- ---- changes that move one patch

pub missing-reserved : (s : TierState) (p : ℕ) (heap : List (Option ℕ)) → IsMissing s heap → IsMissing (reserved s p) (slice_set heap p None)
unfolding reserved
missing-reserved s p heap is =
    let now = reserved s p in
    heap_set (count s) (missing_at s) (missing_at now) heap p None
    (sym (none_coming (kept_wish s p) (is_marked s.base p) (is_held s p) (is_coming now.coming p) (is_marked s.aside p) (reserved_comes s.coming p)))
    (λ q ne. rank_same (kept_wish s q) (is_marked s.base q) (is_held s q) (is_held s q) (is_coming s.coming q) (is_coming now.coming q) (is_marked s.aside q) (is_marked s.aside q) refl (sym (reserved_others s.coming p q ne)) refl)
    is

aside_others : (aside : List Bool) (p q : ℕ) (why : Abort) → q ≢ p → is_marked (aside_after aside p why) q ≡ is_marked aside q
unfolding aside_after
aside_others aside p q reasons.Lost ne = refl
aside_others aside p q reasons.Fault ne = get_or-set_other aside p q true false ne
aside_others aside p q (reasons.Changed fault) ne = get_or-set_other aside p q true false ne

pub missing-aborted : (s : TierState) (p : ℕ) (why : Abort) (o : Option ℕ) (heap : List (Option ℕ)) → o ≡ missing_at (aborted s p why) p → IsMissing s heap → IsMissing (aborted s p why) (slice_set heap p o)
unfolding aborted
missing-aborted s p why o heap told is =
    let now = aborted s p why in
    heap_set (count s) (missing_at s) (missing_at now) heap p o told
    (λ q ne. rank_same (kept_wish s q) (is_marked s.base q) (is_held s q) (is_held s q) (is_coming s.coming q) (is_coming now.coming q) (is_marked s.aside q) (is_marked now.aside q) refl (sym (gone_others p s.coming q ne)) (sym (aside_others s.aside p q why ne)))
    is

pub missing-dropped : (s : TierState) (p : ℕ) (o : Option ℕ) (heap : List (Option ℕ)) → o ≡ missing_at (dropped s p) p → IsMissing s heap → IsMissing (dropped s p) (slice_set heap p o)
unfolding dropped
missing-dropped s p o heap told is =
    let now = dropped s p in
    heap_set (count s) (missing_at s) (missing_at now) heap p o told
    (λ q ne. rank_same (kept_wish s q) (is_marked s.base q) (is_held s q) (is_held now q) (is_coming s.coming q) (is_coming s.coming q) (is_marked s.aside q) (is_marked s.aside q)
    (ap (λ (b : Option SeenBody). is_some b) (sym (get_or-set_other s.held p q None None ne))) refl refl)
    is

pub missing-with_pin : (s : TierState) (body : SeenBody) (heap : List (Option ℕ)) → slice_get s.held body.patch ≡ Some None → IsMissing s heap → IsMissing (with_pin s body) (slice_set heap body.patch None)
unfolding with_pin
missing-with_pin s body heap away is =
    let p = body.patch in
    let there : p < length s.held = slice_get_within s.held p None away in
    let now = with_pin s body in
    heap_set (count s) (missing_at s) (missing_at now) heap p None
    (sym (none_held (kept_wish s p) (is_marked s.base p) (is_held now p) (is_coming s.coming p) (is_marked s.aside p) (ap (λ (b : Option SeenBody). is_some b) (get_or-set_same s.held p (Some body) None there))))
    (λ q ne. rank_same (kept_wish s q) (is_marked s.base q) (is_held s q) (is_held now q) (is_coming s.coming q) (is_coming s.coming q) (is_marked s.aside q) (is_marked s.aside q)
    (ap (λ (b : Option SeenBody). is_some b) (sym (get_or-set_other s.held p q (Some body) None ne))) refl refl)
    is

-- ---- changes that move many

-- no patch is put aside any more
pub missing-renewed : (s : TierState) (version : ℕ) (aside : List Bool) (listed : List ℕ) (told : ℕ → Option ℕ) (heap new : List (Option ℕ)) → aside ≡ none_marked s → AreListed s.aside listed
    → ((p : ℕ) → told p ≡ missing_told s.wishes s.base s.held s.coming false p) → Refreshes heap (length listed) listed told new → IsMissing s heap → IsMissing (record s { version = version; aside = aside }) new
missing-renewed s version aside listed told heap new none are_listed is_told refreshes is = record {
  all_patches = refreshes.all_patches ∙ is.all_patches;
  each = λ p within.
      let cleared : is_marked aside p ≡ false = ap (λ (marks : List Bool). is_marked marks p) none ∙ get_or-replicate (count s) p false false within in
      let rank = λ (mark : Bool). missing_told s.wishes s.base s.held s.coming mark p in
      elim (refreshes.each p) [
        | inl set ↦ set ∙ is_told p ∙ ap rank (sym cleared)
        | inr left ↦ left.1 ∙ is.each p within ∙ ap rank (elim (cases_Bool (is_marked s.aside p)) [
          | inl marked ↦ absurd (let among = are_listed.every p marked in left.0 among.place among.within among.there)
          | inr unmarked ↦ unmarked ∙ sym cleared
        ])
      ];
}

-- ---- what the code reads

pub told_same : (wishes wants : List ℕ) (base leads : List Bool) (held bodies : List (Option SeenBody)) (coming comes : List Coming) (aside mark : Bool) (p : ℕ) → wishes ≡ wants → base ≡ leads → held ≡ bodies → coming ≡ comes → aside ≡ mark
    → missing_told wishes base held coming aside p ≡ missing_told wants leads bodies comes mark p
told_same wishes wants base leads held bodies coming comes aside mark p a b d e f = rw (a, b, d, e, f)

-- ---- a new tier

pub missing-fresh : (index : IndexLists) (budget width : ℕ) (heap : List (Option ℕ)) → heap ≡ replicate (length index.fields) None → IsMissing (fresh index budget width) heap
unfolding fresh
missing-fresh index budget width heap is = rw is (record {
  all_patches = length-replicate (length index.fields) None ∙ sym (length-map index.fields (body_size index.version));
  each = λ p within.
      let n = length index.fields in
      let less : p < n = (let sizes = length-map index.fields (body_size index.version) in omega arith) in
      let s = fresh index budget width in
      rank_at-replicate n p ∙ sym (none_wished (kept_wish s p) (is_marked s.base p) (is_held s p) (is_coming s.coming p) (is_marked s.aside p) (get_or-replicate n p 0 0 less));
})

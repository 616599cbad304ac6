-- Laws of gathering.
use Rattle.std.proofs.Common.{◌≡◌, ◌≢◌, ◌∙◌, sym, ap, subst, refl, ℕ, suc, ◌+◌, ◌-◌, ◌<◌, ◌≤◌, Bool, true, false, cond, List, [], ◌∷◌, ◌++◌, length, take, drop, get_or, ℤ, pos, ◌+ℤ◌, arith}
use Rattle.std.specs.Prelude.{unsigned_abs}
use Rattle.std.specs.declared.cmp.Ordering.{Ordering}
use Rattle.std.specs.declared.cmp.Ordering.TheVariants.{Less, Equal, Greater}
use Rattle.std.specs.Ordering.{is_eq, is_lt, int_eq, int_cmp, ordering_then}
use Rattle.std.specs.Cmp.{IsTotalOrder, on_total, then_total, int_cmp_total}
use Rattle.std.specs.List.{AllByRecursion}
use Rattle.std.specs.List.Sorted.{IsSorted, IsPermutation}
use Rattle.std.specs.Map.{keys_of}
use Rattle.std.proofs.lemmas.Bool.Decides.{Decides-int_eq}
use Rattle.std.proofs.lemmas.Int.{ints}
use Rattle.std.proofs.lemmas.List.{append-nil, drop_more, drop-drop}
use Rattle.std.proofs.lemmas.List.Elements.{recursion_from_All}
use Rattle.std.proofs.lemmas.List.Sorted.{sorted_far, ranks_by}
use Rattle.std.proofs.lemmas.Map.Keys.{sorted_head}
use Rattle.std.proofs.lemmas.Map.Lookups.{CmpEqualImpliesEq}
use Rattle.edge_chain.specs.Gaps.{IsTight, tight_tail, turned}
use Rattle.edge_chain.specs.Totals.{weight, alone}
use Rattle.edge_chain.specs.Gathers.{Rises, Meets, Gathers, Gathered}
use Rattle.edge_chain.specs.Gathers.Meets.{Starts, Follows, Joins}
use Rattle.edge_chain.proofs.TotalLaws.{weight-nil, weight-cons, weight-append, weight-one, weight-permutation, abs_add, total-nil, total-cons, total-one, total-append, total-permutation, total-unless, same_key, tight-nil, tight-cons}

weight_if : {K : Type 0} (e : K × ℤ) (t : Bool) → weight (cond t [] (e ∷ [])) ≤ unsigned_abs e.1
weight_if {K} e true = omega (arith, weight-nil K)
weight_if e false = omega (arith, weight-one e)

-- an entry alone weighs no more than it
pub weight_alone : {K : Type 0} (e : K × ℤ) → weight (alone e) ≤ unsigned_abs e.1
weight_alone e = weight_if e (int_eq e.1 (pos 0))

module _ {K : Type 0} where
  all_push : (P : K → Type 0) (es : List (K × ℤ)) (e : K × ℤ) → AllByRecursion P (keys_of es) → P e.0 → AllByRecursion P (keys_of (es ++ e ∷ []))
  all_push P [] e h k = (k, tt)
  all_push P (f ∷ fs) e h k = (h.0, all_push P fs e h.1 k)

  all_front : (P : K → Type 0) (es : List (K × ℤ)) (e : K × ℤ) → AllByRecursion P (keys_of (es ++ e ∷ [])) → AllByRecursion P (keys_of es)
  all_front P [] e h = tt
  all_front P (f ∷ fs) e h = (h.0, all_front P fs e h.1)

  all_last : (P : K → Type 0) (es : List (K × ℤ)) (e : K × ℤ) → AllByRecursion P (keys_of (es ++ e ∷ [])) → P e.0
  all_last P [] e h = h.0
  all_last P (f ∷ fs) e h = all_last P fs e h.1

  each_front : (P : K × ℤ → Type 0) (es : List (K × ℤ)) (e : K × ℤ) → AllByRecursion P (es ++ e ∷ []) → AllByRecursion P es × P e
  each_front P [] e h = (tt, h.0)
  each_front P (f ∷ fs) e h = let rest = each_front P fs e h.1 in ((h.0, rest.0), rest.1)

  each_append : (P : K × ℤ → Type 0) (es fs : List (K × ℤ)) → AllByRecursion P es → AllByRecursion P fs → AllByRecursion P (es ++ fs)
  each_append P [] fs h k = k
  each_append P (e ∷ es) fs h k = (h.0, each_append P es fs h.1 k)

  each_alone : (P : K × ℤ → Type 0) (e : K × ℤ) (t : Bool) → P e → AllByRecursion P (cond t [] (e ∷ []))
  each_alone P e true h = tt
  each_alone P e false h = (h, tt)

  each_weaker : (P Q : K × ℤ → Type 0) (es : List (K × ℤ)) → ((e : K × ℤ) → P e → Q e) → AllByRecursion P es → AllByRecursion Q es
  each_weaker P Q [] h k = tt
  each_weaker P Q (e ∷ es) h k = (h e k.0, each_weaker P Q es h k.1)

module _ {K : Type 0} (R : K → K → Ordering) where
  -- ---- tight lists from behind

  tight_push : (es : List (K × ℤ)) (e : K × ℤ) → IsTight R es → AllByRecursion (λ k. R k.0 e.0 ≡ Less) es → e.1 ≢ pos 0 → IsTight R (es ++ e ∷ [])
  tight_push [] e h k apart = tight-cons R e [] tt apart (tight-nil R)
  tight_push (f ∷ fs) e h k apart =
      tight-cons R f (fs ++ e ∷ []) (all_push (λ y. R f.0 y ≡ Less) fs e (sorted_head R f.0 (keys_of fs) h.ascending) k.0) h.not_zero.0
      (tight_push fs e (tight_tail R f fs h) k.1 apart)

  tight_front : (es : List (K × ℤ)) (e : K × ℤ) → IsTight R (es ++ e ∷ []) → IsTight R es
  tight_front [] e h = tight-nil R
  tight_front (f ∷ fs) e h =
      tight-cons R f fs (all_front (λ y. R f.0 y ≡ Less) fs e (sorted_head R f.0 (keys_of (fs ++ e ∷ [])) h.ascending)) h.not_zero.0
      (tight_front fs e (tight_tail R f (fs ++ e ∷ []) h))

  before_last : (es : List (K × ℤ)) (e : K × ℤ) → IsTight R (es ++ e ∷ []) → AllByRecursion (λ k. R k.0 e.0 ≡ Less) es
  before_last [] e h = tt
  before_last (f ∷ fs) e h =
      (all_last (λ y. R f.0 y ≡ Less) fs e (sorted_head R f.0 (keys_of (fs ++ e ∷ [])) h.ascending), before_last fs e (tight_tail R f (fs ++ e ∷ []) h))

  tight_alone : (kept : List (K × ℤ)) (e : K × ℤ) → IsTight R kept → AllByRecursion (λ k. R k.0 e.0 ≡ Less) kept → (t : Bool) → int_eq e.1 (pos 0) ≡ t → IsTight R (kept ++ cond t [] (e ∷ []))
  tight_alone kept e h before true t = subst (λ (es : List (K × ℤ)). IsTight R es) (sym (append-nil kept)) h
  tight_alone kept e h before false t = tight_push kept e h before (λ z. absurd (let clash = (Decides-int_eq e.1 (pos 0)).1 z in cc))

  rises_head : (e : K × ℤ) (es : List (K × ℤ)) → Rises R (e ∷ es) → AllByRecursion (λ f. is_lt (R f.0 e.0) ≡ false) es
  unfolding Rises
  rises_head e es h = h.0

  rises_tail : (e : K × ℤ) (es : List (K × ℤ)) → Rises R (e ∷ es) → Rises R es
  unfolding Rises
  rises_tail e es h = h.1

  -- only the keys count
  rises_key : (e f : K × ℤ) (es : List (K × ℤ)) → e.0 ≡ f.0 → Rises R (e ∷ es) → Rises R (f ∷ es)
  unfolding Rises
  rises_key e f es same h = (subst (λ (k : K). AllByRecursion (λ g. is_lt (R g.0 k) ≡ false) es) same h.0, h.1)

  -- an entry that comes behind all kept ones
  gathers_apart : (kept rest whole : List (K × ℤ)) (e : K × ℤ) → Gathers R kept (e ∷ rest) whole → AllByRecursion (λ k. R k.0 e.0 ≡ Less) kept → Gathers R (kept ++ alone e) rest whole
  gathers_apart kept rest whole e h before = record {
    totals = λ q. omega (arith, ints, h.totals q, total-append R kept (alone e) q, total-unless R e [] q, total-nil R q, total-cons R e rest q);
    tight = tight_alone kept e h.tight before (int_eq e.1 (pos 0)) refl;
    rises = rises_tail e rest h.rises;
    behind =
        each_append (λ k. AllByRecursion (λ f. is_lt (R f.0 k.0) ≡ false) rest) kept (alone e)
        (each_weaker (λ k. AllByRecursion (λ f. is_lt (R f.0 k.0) ≡ false) (e ∷ rest)) (λ k. AllByRecursion (λ f. is_lt (R f.0 k.0) ≡ false) rest) kept (λ k both. both.1) h.behind)
        (each_alone (λ k. AllByRecursion (λ f. is_lt (R f.0 k.0) ≡ false) rest) e (int_eq e.1 (pos 0)) (rises_head e rest h.rises));
    weights = omega (arith, h.weights, weight-append kept (alone e), weight_alone e, weight-cons e rest);
  }

  module _ (o : IsTotalOrder R) (exact : CmpEqualImpliesEq R) where
    less_by : (p q : K) (r : Ordering) → R p q ≡ r → is_eq r ≡ false → is_lt (R q p) ≡ false → R p q ≡ Less
    less_by p q Less is apart late = is
    less_by p q Equal is apart late = absurd cc
    less_by p q Greater is apart late = absurd (let back = turned R o exact p q Greater is in cc)

    all_before : (front : List (K × ℤ)) (p q : K) → R p q ≡ Less → AllByRecursion (λ k. R k.0 p ≡ Less) front → AllByRecursion (λ k. R k.0 q ≡ Less) front
    all_before front p q less h = each_weaker (λ k. R k.0 p ≡ Less) (λ k. R k.0 q ≡ Less) front (λ k before. o.trans k.0 p q before less) h

    follows : (front rest whole : List (K × ℤ)) (last e : K × ℤ) → Gathers R (front ++ last ∷ []) (e ∷ rest) whole → is_eq (R last.0 e.0) ≡ false → AllByRecursion (λ k. R k.0 e.0 ≡ Less) (front ++ last ∷ [])
    follows front rest whole last e h apart =
        let late = (each_front (λ k. AllByRecursion (λ f. is_lt (R f.0 k.0) ≡ false) (e ∷ rest)) front last h.behind).1.0 in
        let less = less_by last.0 e.0 (R last.0 e.0) refl apart late in
        each_append (λ k. R k.0 e.0 ≡ Less) front (last ∷ []) (all_before front last.0 e.0 less (before_last front last h.tight)) (less, tt)

    -- an entry that joins the last kept one
    joins : (front rest whole : List (K × ℤ)) (last e : K × ℤ) → Gathers R (front ++ last ∷ []) (e ∷ rest) whole → last.0 ≡ e.0 → Gathers R front ((e.0, last.1 +ℤ e.1) ∷ rest) whole
    joins front rest whole last e h same = record {
      totals = λ q. omega (arith, ints, h.totals q, total-append R front (last ∷ []) q, total-one R last q, total-cons R e rest q, total-cons R (e.0, last.1 +ℤ e.1) rest q, same_key R o exact q last e same);
      tight = tight_front front last h.tight;
      rises = rises_key e (e.0, last.1 +ℤ e.1) rest refl h.rises;
      behind = (each_front (λ k. AllByRecursion (λ f. is_lt (R f.0 k.0) ≡ false) (e ∷ rest)) front last h.behind).0;
      weights = omega (arith, h.weights, weight-append front (last ∷ []), weight-one last, weight-cons e rest, weight-cons (e.0, last.1 +ℤ e.1) rest, abs_add last.1 e.1);
    }

    -- one more entry is gathered
    pub gathers_more : (kept rest whole front : List (K × ℤ)) (e : K × ℤ) (both : ℤ) → Gathers R kept (e ∷ rest) whole → Meets R kept e front both → Gathers R (front ++ alone (e.0, both)) rest whole
    gathers_more kept rest whole _ e _ h (Starts none) =
        gathers_apart kept rest whole e h (subst (λ (es : List (K × ℤ)). AllByRecursion (λ k. R k.0 e.0 ≡ Less) es) (sym none) tt)
    gathers_more kept rest whole _ e _ h (Follows front last is apart) =
        let h' = subst (λ (es : List (K × ℤ)). Gathers R es (e ∷ rest) whole) is h in
        gathers_apart kept rest whole e h (subst (λ (es : List (K × ℤ)). AllByRecursion (λ k. R k.0 e.0 ≡ Less) es) (sym is) (follows front rest whole last e h' apart))
    gathers_more kept rest whole _ e _ h (Joins front last is tie) =
        let h' = subst (λ (es : List (K × ℤ)). Gathers R es (e ∷ rest) whole) is h in
        let same = exact last.0 e.0 tie in
        gathers_apart front rest whole (e.0, last.1 +ℤ e.1) (joins front rest whole last e h' same)
        (subst (λ (k : K). AllByRecursion (λ f. R f.0 k ≡ Less) front) same (before_last front last h'.tight))

    -- ---- the loop

    pub gathers_none : (sums : List (K × ℤ)) → Rises R sums → Gathers R [] sums sums
    gathers_none sums h = record {
      totals = λ q. omega (arith, ints, total-nil R q);
      tight = tight-nil R;
      rises = h;
      behind = tt;
      weights = omega (arith, weight-nil K);
    }

    pub gathers_step : (sums after whole : List (K × ℤ)) (kept at front next : ℕ) (d e : K × ℤ) (both : ℤ) → at < length sums → get_or sums at d ≡ e → front ≤ at → Gathers R (take kept sums) (drop at sums) whole → Meets R (take kept sums) e (take front sums) both → take next after ≡ take front sums ++ alone (e.0, both) → drop (front + 1) after ≡ drop (front + 1) sums → Gathers R (take next after) (drop (at + 1) after) whole
    gathers_step sums after whole kept at front next d e both within is low h meets kept_is rest_is =
        let left : drop at sums ≡ e ∷ drop (at + 1) sums = drop_more sums at d within ∙ ap (λ (x : K × ℤ). x ∷ drop (at + 1) sums) is in
        let far : (front + 1) + (at - front) ≡ at + 1 = omega arith in
        let same : drop (at + 1) after ≡ drop (at + 1) sums =
        ap (λ n. drop n after) (sym far) ∙ sym (drop-drop (at - front) (front + 1) after) ∙ ap (λ (xs : List (K × ℤ)). drop (at - front) xs) rest_is
        ∙ drop-drop (at - front) (front + 1) sums ∙ ap (λ n. drop n sums) far in
        let h' = subst (λ (rest : List (K × ℤ)). Gathers R (take kept sums) rest whole) left h in
        let more = gathers_more (take kept sums) (drop (at + 1) sums) whole (take front sums) e both h' meets in
        subst (λ (rest : List (K × ℤ)). Gathers R (take next after) rest whole) (sym same)
        (subst (λ (es : List (K × ℤ)). Gathers R es (drop (at + 1) sums) whole) (sym kept_is) more)

    -- a kept list and the next entry weigh no more than the whole
    pub gathers_small : (sums whole : List (K × ℤ)) (kept at : ℕ) (d : K × ℤ) → at < length sums → Gathers R (take kept sums) (drop at sums) whole → weight (take kept sums) + unsigned_abs (get_or sums at d).1 ≤ weight whole
    gathers_small sums whole kept at d within h =
        omega (arith, h.weights, ap (λ (es : List (K × ℤ)). weight es) (drop_more sums at d within), weight-cons (get_or sums at d) (drop (at + 1) sums))

    -- sorted sums that were gathered are gathered sums
    pub gathered_from_sorted : (whole sorted kept : List (K × ℤ)) → IsPermutation whole sorted → Gathers R kept [] sorted → Gathered R whole kept
    gathered_from_sorted whole sorted kept moved h = record {
      totals = λ q. omega (arith, ints, h.totals q, total-nil R q, total-permutation R whole sorted q moved);
      tight = h.tight;
      weights = omega (arith, h.weights, weight-nil K, weight-permutation whole sorted moved);
    }

    -- ---- the order after a sort

    abbrev pub entry_cmp : K × ℤ → K × ℤ → Ordering
    entry_cmp e f = ordering_then (R e.0 f.0) (int_cmp e.1 f.1)

    entry_cmp_total : IsTotalOrder entry_cmp
    entry_cmp_total = then_total (on_total (λ (e : K × ℤ). e.0) o) (on_total (λ (e : K × ℤ). e.1) int_cmp_total)

    key_late : (p q : Ordering) → is_lt (ordering_then p q) ≡ false → is_lt p ≡ false
    key_late Less q h = absurd cc
    key_late Equal q h = refl
    key_late Greater q h = refl

    rises_from_far : (es : List (K × ℤ)) → ((i j : ℕ) (d : K × ℤ) → i ≤ j → j < length es → is_lt (entry_cmp (get_or es j d) (get_or es i d)) ≡ false) → Rises R es
    unfolding Rises
    rises_from_far [] h = tt
    rises_from_far (e ∷ es) h = (
      recursion_from_All (λ (f : K × ℤ). is_lt (R f.0 e.0) ≡ false) es (λ k d within.
          key_late (R (get_or es k d).0 e.0) (int_cmp (get_or es k d).1 e.1) (h 0 (suc k) d (omega arith) (omega arith))),
      rises_from_far es (λ i j d below within. h (suc i) (suc j) d (omega arith) (omega arith)),
    )

    pub rises_from_sort : (es : List (K × ℤ)) → IsSorted entry_cmp es → Rises R es
    rises_from_sort es h =
        rises_from_far es (λ i j d below within. sorted_far (λ x y. is_lt (entry_cmp x y)) (ranks_by entry_cmp_total (λ (e : K × ℤ). e)) es h i j d below within)

-- Laws of totals and of tight lists.
use Rattle.std.proofs.Common.{◌≡◌, ◌≢◌, ◌∙◌, sym, ap, subst, refl, ℕ, ◌+◌, ◌≤◌, Bool, true, false, cond, List, [], ◌∷◌, ◌++◌, length, ℤ, pos, negsuc, ◌+ℤ◌, ◌-ℤ◌, arith}
use Rattle.std.specs.Prelude.{Option, Some, None, MatchOption, unsigned_abs}
use Rattle.std.specs.declared.cmp.Ordering.{Ordering}
use Rattle.std.specs.declared.cmp.Ordering.TheVariants.{Less, Equal, Greater}
use Rattle.std.specs.Ordering.{is_eq, int_eq}
use Rattle.std.specs.Cmp.{IsTotalOrder}
use Rattle.std.specs.List.{AllByRecursion, sum_by}
use Rattle.std.specs.List.Sorted.{IsStrictlySortedBy, IsPermutation}
use Rattle.std.specs.Map.{keys_of}
use Rattle.std.specs.BTreeMap.{is_at}
use Rattle.std.proofs.lemmas.Bool.Decides.{Decides-int_eq}
use Rattle.std.proofs.lemmas.Cmp.{tied_itself}
use Rattle.std.proofs.lemmas.Int.{ints}
use Rattle.std.proofs.lemmas.List.Sorted.{sum_by-IsPermutation}
use Rattle.std.proofs.lemmas.List.Sums.{sum_by-append, sum_by-cons}
use Rattle.std.proofs.lemmas.Map.Keys.{sorted_head}
use Rattle.std.proofs.lemmas.Map.Lookups.{CmpEqualImpliesEq}
use Rattle.edge_chain.specs.Gaps.{Gap, at_key, first_gap, IsGap, IsTight, gap_is, tight_tail, below_head, at_tie, past_head, turned}
use Rattle.edge_chain.specs.Totals.{some, weight, unless_zero, part, total, put_by, put, normal}

-- ---- weights

pub weight-nil : (K : Type 0) → weight {K = K} [] ≡ 0
unfolding weight
weight-nil K = refl

pub weight-cons : {K : Type 0} (e : K × ℤ) (es : List (K × ℤ)) → weight (e ∷ es) ≡ unsigned_abs e.1 + weight es
unfolding weight
weight-cons e es = sum_by-cons (λ e. unsigned_abs e.1) e es

pub weight-append : {K : Type 0} (es fs : List (K × ℤ)) → weight (es ++ fs) ≡ weight es + weight fs
unfolding weight
weight-append es fs = sum_by-append (λ e. unsigned_abs e.1) es fs

pub weight-one : {K : Type 0} (e : K × ℤ) → weight (e ∷ []) ≡ unsigned_abs e.1
weight-one {K} e = omega (arith, weight-cons e [], weight-nil K)

pub weight-permutation : {K : Type 0} (es fs : List (K × ℤ)) → IsPermutation es fs → weight fs ≡ weight es
unfolding weight
weight-permutation es fs h = sum_by-IsPermutation (λ e. unsigned_abs e.1) es fs h

pub abs_add : (a b : ℤ) → unsigned_abs (a +ℤ b) ≤ unsigned_abs a + unsigned_abs b
abs_add (pos x) (pos y) = omega (arith, ints)
abs_add (pos x) (negsuc y) = omega (arith, ints)
abs_add (negsuc x) (pos y) = omega (arith, ints)
abs_add (negsuc x) (negsuc y) = omega (arith, ints)

-- ---- whether an integer is 0

some_if : (z : ℤ) (t : Bool) → int_eq z (pos 0) ≡ t → z ≢ pos 0 → cond {A = ℕ} t 0 1 ≡ 1
some_if z true e h = absurd (h ((Decides-int_eq z (pos 0)).0 e))
some_if z false e h = refl

pub some_one : (z : ℤ) → z ≢ pos 0 → some z ≡ 1
some_one z h = some_if z (int_eq z (pos 0)) refl h

most_if : (t : Bool) → cond {A = ℕ} t 0 1 ≤ 1
most_if true = omega arith
most_if false = omega arith

pub some_most : (z : ℤ) → some z ≤ 1
some_most z = most_if (int_eq z (pos 0))

-- ---- parts of an integer above and below 0

up : ℤ → ℕ
up (pos n) = n
up (negsuc n) = 0

down : ℤ → ℕ
down (pos n) = 0
down (negsuc n) = n + 1

up_down : (z : ℤ) → z ≡ pos (up z) -ℤ pos (down z)
unfolding up down
up_down (pos n) = omega (arith, ints)
up_down (negsuc n) = omega (arith, ints)

module _ {K : Type 0} (R : K → K → Ordering) where
  pub total-nil : (q : K) → total R [] q ≡ pos 0
  unfolding total
  total-nil q = refl

  pub total-cons : (e : K × ℤ) (es : List (K × ℤ)) (q : K) → total R (e ∷ es) q ≡ part R q e +ℤ total R es q
  unfolding total
  total-cons e es q = refl

  pub total-one : (e : K × ℤ) (q : K) → total R (e ∷ []) q ≡ part R q e
  total-one e q = omega (arith, ints, total-cons e [] q, total-nil q)

  pub total-append : (es fs : List (K × ℤ)) (q : K) → total R (es ++ fs) q ≡ total R es q +ℤ total R fs q
  total-append [] fs q = omega (arith, ints, total-nil q)
  total-append (e ∷ es) fs q = omega (arith, ints, total-cons e (es ++ fs) q, total-cons e es q, total-append es fs q)

  ups : K → K × ℤ → ℕ
  ups q e = up (part R q e)

  downs : K → K × ℤ → ℕ
  downs q e = down (part R q e)

  part_is : (q : K) (e : K × ℤ) → part R q e ≡ pos (ups q e) -ℤ pos (downs q e)
  unfolding ups downs
  part_is q e = up_down (part R q e)

  total_by : (es : List (K × ℤ)) (q : K) → total R es q ≡ pos (sum_by (ups q) es) -ℤ pos (sum_by (downs q) es)
  total_by [] q = omega (arith, ints, total-nil q)
  total_by (e ∷ es) q = omega (arith, ints, total-cons e es q, part_is q e, total_by es q, sum_by-cons (ups q) e es, sum_by-cons (downs q) e es)

  pub total-permutation : (es fs : List (K × ℤ)) (q : K) → IsPermutation es fs → total R fs q ≡ total R es q
  total-permutation es fs q h =
      total_by fs q
      ∙ (λ i. pos (sum_by-IsPermutation (ups q) es fs h i) -ℤ pos (sum_by-IsPermutation (downs q) es fs h i))
      ∙ sym (total_by es q)

  part_within : (q : K) (e : K × ℤ) (t : Bool) → unsigned_abs (cond t e.1 (pos 0)) ≤ unsigned_abs e.1
  part_within q e true = omega arith
  part_within q e false = omega arith

  -- a total is no larger than the weight
  pub total_small : (es : List (K × ℤ)) (q : K) → unsigned_abs (total R es q) ≤ weight es
  total_small [] q = subst (λ (z : ℤ). unsigned_abs z ≤ weight {K = K} []) (sym (total-nil q)) (omega arith)
  total_small (e ∷ es) q =
      subst (λ (z : ℤ). unsigned_abs z ≤ weight (e ∷ es)) (sym (total-cons e es q))
      (omega (arith, abs_add (part R q e) (total R es q), part_within q e (is_at (R q) e.0), total_small es q, weight-cons e es))

  -- a key below all others has nothing
  pub none_total : (q : K) (es : List (K × ℤ)) → AllByRecursion (λ y. R q y ≡ Less) (keys_of es) → total R es q ≡ pos 0
  none_total q [] h = total-nil q
  none_total q (e ∷ es) h =
      let apart : part R q e ≡ pos 0 = ap (λ (r : Ordering). cond (is_eq r) e.1 (pos 0)) h.0 in
      omega (arith, ints, total-cons e es q, none_total q es h.1, apart)

  -- ---- an entry before others, unless it is 0

  total_if : (e : K × ℤ) (rest : List (K × ℤ)) (q : K) (t : Bool) → int_eq e.1 (pos 0) ≡ t → total R (cond t rest (e ∷ rest)) q ≡ part R q e +ℤ total R rest q
  total_if e rest q false h = total-cons e rest q
  total_if e rest q true h =
      let none : (t : Bool) → cond t e.1 (pos 0) ≡ pos 0 = λ t. elim t as (λ t. cond t e.1 (pos 0) ≡ pos 0) [ true ↦ (Decides-int_eq e.1 (pos 0)).0 h | false ↦ refl ] in
      omega (arith, ints, none (is_at (R q) e.0))

  pub total-unless : (e : K × ℤ) (rest : List (K × ℤ)) (q : K) → total R (unless_zero e rest) q ≡ part R q e +ℤ total R rest q
  total-unless e rest q = total_if e rest q (int_eq e.1 (pos 0)) refl

  length-unless : (e : K × ℤ) (rest : List (K × ℤ)) (t : Bool) → length (cond t rest (e ∷ rest)) ≡ length rest + cond {A = ℕ} t 0 1
  length-unless e rest true = omega arith
  length-unless e rest false = omega arith

  pub tight-nil : IsTight R []
  unfolding IsStrictlySortedBy
  tight-nil = record { ascending = tt; not_zero = tt }

  pub tight-cons : (e : K × ℤ) (es : List (K × ℤ)) → AllByRecursion (λ y. R e.0 y ≡ Less) (keys_of es) → e.1 ≢ pos 0 → IsTight R es → IsTight R (e ∷ es)
  unfolding IsStrictlySortedBy
  tight-cons e es after apart h = record { ascending = (after, h.ascending); not_zero = (apart, h.not_zero) }

  tight_if : (e : K × ℤ) (es : List (K × ℤ)) → AllByRecursion (λ y. R e.0 y ≡ Less) (keys_of es) → IsTight R es → (t : Bool) → int_eq e.1 (pos 0) ≡ t → IsTight R (cond t es (e ∷ es))
  tight_if e es after h true t = h
  tight_if e es after h false t = tight-cons e es after (λ z. absurd (let clash = (Decides-int_eq e.1 (pos 0)).1 z in cc)) h

  pub tight-unless : (e : K × ℤ) (es : List (K × ℤ)) → AllByRecursion (λ y. R e.0 y ≡ Less) (keys_of es) → IsTight R es → IsTight R (unless_zero e es)
  tight-unless e es after h = tight_if e es after h (int_eq e.1 (pos 0)) refl

  keys_if : (P : K → Type 0) (e : K × ℤ) (es : List (K × ℤ)) → P e.0 → AllByRecursion P (keys_of es) → (t : Bool) → AllByRecursion P (keys_of (cond t es (e ∷ es)))
  keys_if P e es h k true = k
  keys_if P e es h k false = (h, k)

  -- what holds of the keys holds of those with an entry more
  keys_by : (P : K → Type 0) (o : Ordering) (e f : K × ℤ) (fs again : List (K × ℤ)) → P e.0 → P f.0 → AllByRecursion P (keys_of fs) → AllByRecursion P (keys_of again) → AllByRecursion P (keys_of (put_by R o e f fs again))
  keys_by P Less e f fs again h k l m = keys_if P e (f ∷ fs) h (k, l) (int_eq e.1 (pos 0))
  keys_by P Equal e f fs again h k l m = keys_if P (f.0, e.1 +ℤ f.1) fs k l (int_eq (e.1 +ℤ f.1) (pos 0))
  keys_by P Greater e f fs again h k l m = (k, m)

  pub put_keys : (P : K → Type 0) (e : K × ℤ) (fs : List (K × ℤ)) → P e.0 → AllByRecursion P (keys_of fs) → AllByRecursion P (keys_of (put R e fs))
  put_keys P e [] h k = keys_if P e [] h tt (int_eq e.1 (pos 0))
  put_keys P e (f ∷ fs) h k = keys_by P (R e.0 f.0) e f fs (put R e fs) h k.0 k.1 (put_keys P e fs h k.1)

  module _ (o : IsTotalOrder R) (exact : CmpEqualImpliesEq R) where
    -- keys behind one are behind what comes before that
    pub all_behind : (p q : K) (ks : List K) → R p q ≡ Less → AllByRecursion (λ y. R q y ≡ Less) ks → AllByRecursion (λ y. R p y ≡ Less) ks
    all_behind p q [] h k = tt
    all_behind p q (x ∷ ks) h k = (o.trans p q x h k.0, all_behind p q ks h k.1)

    pub tied_behind : (p q : K) (ks : List K) → R p q ≡ Equal → AllByRecursion (λ y. R q y ≡ Less) ks → AllByRecursion (λ y. R p y ≡ Less) ks
    tied_behind p q [] h k = tt
    tied_behind p q (x ∷ ks) h k = (o.congr p q x h ∙ k.0, tied_behind p q ks h k.1)

    pub same_key : (q : K) (e f : K × ℤ) → e.0 ≡ f.0 → part R q (f.0, e.1 +ℤ f.1) ≡ part R q e +ℤ part R q f
    same_key q e f same =
        let sum_if : (t : Bool) → cond t (e.1 +ℤ f.1) (pos 0) ≡ cond t e.1 (pos 0) +ℤ cond t f.1 (pos 0) = λ t. elim t as (λ t. cond t (e.1 +ℤ f.1) (pos 0) ≡ cond t e.1 (pos 0) +ℤ cond t f.1 (pos 0)) [ true ↦ refl | false ↦ refl ] in
        sum_if (is_at (R q) f.0) ∙ ap (λ (k : K). cond (is_at (R q) k) e.1 (pos 0) +ℤ part R q f) (sym same)

    put_total_by : (e f : K × ℤ) (fs again : List (K × ℤ)) (q : K) → total R again q ≡ part R q e +ℤ total R fs q → (r : Ordering) → R e.0 f.0 ≡ r → total R (put_by R r e f fs again) q ≡ part R q e +ℤ total R (f ∷ fs) q
    put_total_by e f fs again q h Less is = total-unless e (f ∷ fs) q
    put_total_by e f fs again q h Equal is = omega (arith, ints, total-unless (f.0, e.1 +ℤ f.1) fs q, same_key q e f (exact e.0 f.0 is), total-cons f fs q)
    put_total_by e f fs again q h Greater is = omega (arith, ints, total-cons f again q, total-cons f fs q, h)

    -- an entry more adds its part
    pub total-put : (e : K × ℤ) (fs : List (K × ℤ)) (q : K) → total R (put R e fs) q ≡ part R q e +ℤ total R fs q
    total-put e [] q = total-unless e [] q
    total-put e (f ∷ fs) q = put_total_by e f fs (put R e fs) q (total-put e fs q) (R e.0 f.0) refl

    put_tight_by : (e f : K × ℤ) (fs : List (K × ℤ)) → IsTight R (f ∷ fs) → IsTight R (put R e fs) → (r : Ordering) → R e.0 f.0 ≡ r → IsTight R (put_by R r e f fs (put R e fs))
    put_tight_by e f fs h again Less is = tight-unless e (f ∷ fs) (is, all_behind e.0 f.0 (keys_of fs) is (sorted_head R f.0 (keys_of fs) h.ascending)) h
    put_tight_by e f fs h again Equal is = tight-unless (f.0, e.1 +ℤ f.1) fs (sorted_head R f.0 (keys_of fs) h.ascending) (tight_tail R f fs h)
    put_tight_by e f fs h again Greater is =
        tight-cons f (put R e fs) (put_keys (λ y. R f.0 y ≡ Less) e fs (turned R o exact e.0 f.0 Greater is) (sorted_head R f.0 (keys_of fs) h.ascending)) h.not_zero.0 again

    pub put_tight : (e : K × ℤ) (fs : List (K × ℤ)) → IsTight R fs → IsTight R (put R e fs)
    put_tight e [] h = tight-unless e [] tt tight-nil
    put_tight e (f ∷ fs) h = put_tight_by e f fs h (put_tight e fs (tight_tail R f fs h)) (R e.0 f.0) refl

    -- ---- tight lists by their totals

    at_by : (q : K) (e : K × ℤ) (es : List (K × ℤ)) → IsTight R (e ∷ es) → at_key R es q ≡ total R es q → (r : Ordering) → R q e.0 ≡ r → at_key R (e ∷ es) q ≡ total R (e ∷ es) q
    at_by q e es h again Less is =
        below_head R o exact q e es h is
        ∙ sym (none_total q (e ∷ es) (is, all_behind q e.0 (keys_of es) is (sorted_head R e.0 (keys_of es) h.ascending)))
    at_by q e es h again Equal is =
        let here : part R q e ≡ e.1 = ap (λ (r : Ordering). cond (is_eq r) e.1 (pos 0)) is in
        let rest = none_total q es (tied_behind q e.0 (keys_of es) is (sorted_head R e.0 (keys_of es) h.ascending)) in
        let whole : total R (e ∷ es) q ≡ e.1 = omega (arith, ints, total-cons e es q, here, rest) in
        at_tie R o exact q e es is ∙ sym whole
    at_by q e es h again Greater is =
        let here : part R q e ≡ pos 0 = ap (λ (r : Ordering). cond (is_eq r) e.1 (pos 0)) is in
        let whole : total R (e ∷ es) q ≡ total R es q = omega (arith, ints, total-cons e es q, here) in
        past_head R o exact q e es is ∙ again ∙ sym whole

    pub at_total : (es : List (K × ℤ)) → IsTight R es → (q : K) → at_key R es q ≡ total R es q
    at_total [] h q = sym (total-nil q)
    at_total (e ∷ es) h q = at_by q e es h (at_total es (tight_tail R e es h) q) (R q e.0) refl

    one_by : (es fs : List (K × ℤ)) → IsTight R es → IsTight R fs → ((q : K) → total R es q ≡ total R fs q) → (gap : Option (Gap K)) → MatchOption gap (es ≡ fs) (IsGap R es fs) → es ≡ fs
    one_by es fs h k same None is = is
    one_by es fs h k same (Some g) is = absurd (is.differs (sym is.here_is ∙ at_total es h g.0 ∙ same g.0 ∙ sym (at_total fs k g.0) ∙ is.there_is))

    -- tight lists with the same totals are one
    pub one_from_totals : (es fs : List (K × ℤ)) → IsTight R es → IsTight R fs → ((q : K) → total R es q ≡ total R fs q) → es ≡ fs
    one_from_totals es fs h k same = one_by es fs h k same (first_gap R es fs) (gap_is R o exact es fs h k)

    pub normal_tight : (es : List (K × ℤ)) → IsTight R (normal R es)
    unfolding normal
    normal_tight [] = tight-nil
    normal_tight (e ∷ es) = put_tight e (normal R es) (normal_tight es)

    pub total-normal : (es : List (K × ℤ)) (q : K) → total R (normal R es) q ≡ total R es q
    unfolding normal
    total-normal [] q = refl
    total-normal (e ∷ es) q = omega (arith, ints, total-put e (normal R es) q, total-normal es q, total-cons e es q)

    pub at_normal : (es : List (K × ℤ)) (q : K) → at_key R (normal R es) q ≡ total R es q
    at_normal es q = at_total (normal R es) (normal_tight es) q ∙ total-normal es q

    pub normal_same : (es fs : List (K × ℤ)) → ((q : K) → total R es q ≡ total R fs q) → normal R es ≡ normal R fs
    normal_same es fs same = one_from_totals (normal R es) (normal R fs) (normal_tight es) (normal_tight fs) (λ q. total-normal es q ∙ same q ∙ sym (total-normal fs q))

    pub normal_itself : (es : List (K × ℤ)) → IsTight R es → normal R es ≡ es
    normal_itself es h = one_from_totals (normal R es) es (normal_tight es) h (total-normal es)

    pub normal-nil : normal R [] ≡ []
    unfolding normal
    normal-nil = refl

    -- an entry behind a list is put into its tight list too
    pub normal-push : (es : List (K × ℤ)) (e : K × ℤ) → normal R (es ++ e ∷ []) ≡ put R e (normal R es)
    normal-push es e =
        one_from_totals (normal R (es ++ e ∷ [])) (put R e (normal R es)) (normal_tight (es ++ e ∷ [])) (put_tight e (normal R es) (normal_tight es))
        (λ q. omega (arith, ints, total-normal (es ++ e ∷ []) q, total-append es (e ∷ []) q, total-one e q, total-put e (normal R es) q, total-normal es q))

    -- ---- how many entries there are, with an entry more

    length_by : (e f : K × ℤ) (fs again : List (K × ℤ)) → IsTight R (f ∷ fs) → length again + some (total R fs e.0) ≡ length fs + some (total R fs e.0 +ℤ e.1) → (r : Ordering) → R e.0 f.0 ≡ r → length (put_by R r e f fs again) + some (total R (f ∷ fs) e.0) ≡ length (f ∷ fs) + some (total R (f ∷ fs) e.0 +ℤ e.1)
    length_by e f fs again h k Less is =
        let none : total R (f ∷ fs) e.0 ≡ pos 0 = none_total e.0 (f ∷ fs) (is, all_behind e.0 f.0 (keys_of fs) is (sorted_head R f.0 (keys_of fs) h.ascending)) in
        let alone_is : pos 0 +ℤ e.1 ≡ e.1 = omega (arith, ints) in
        rw (none, alone_is) (omega (arith, length-unless e (f ∷ fs) (int_eq e.1 (pos 0))))
    length_by e f fs again h k Equal is =
        let here : part R e.0 f ≡ f.1 = ap (λ (r : Ordering). cond (is_eq r) f.1 (pos 0)) is in
        let rest = none_total e.0 fs (tied_behind e.0 f.0 (keys_of fs) is (sorted_head R f.0 (keys_of fs) h.ascending)) in
        let whole : total R (f ∷ fs) e.0 ≡ f.1 = omega (arith, ints, total-cons f fs e.0, here, rest) in
        let both : f.1 +ℤ e.1 ≡ e.1 +ℤ f.1 = omega (arith, ints) in
        rw (whole, both) (omega (arith, length-unless (f.0, e.1 +ℤ f.1) fs (int_eq (e.1 +ℤ f.1) (pos 0)), some_one f.1 h.not_zero.0))
    length_by e f fs again h k Greater is =
        let here : part R e.0 f ≡ pos 0 = ap (λ (r : Ordering). cond (is_eq r) f.1 (pos 0)) is in
        let whole : total R (f ∷ fs) e.0 ≡ total R fs e.0 = omega (arith, ints, total-cons f fs e.0, here) in
        rw whole (omega arith)

    pub length-put : (e : K × ℤ) (fs : List (K × ℤ)) → IsTight R fs → length (put R e fs) + some (total R fs e.0) ≡ length fs + some (total R fs e.0 +ℤ e.1)
    length-put e [] h =
        let alone_is : pos 0 +ℤ e.1 ≡ e.1 = omega (arith, ints) in
        rw (total-nil e.0, alone_is) (omega (arith, length-unless e [] (int_eq e.1 (pos 0))))
    length-put e (f ∷ fs) h = length_by e f fs (put R e fs) h (length-put e fs (tight_tail R f fs h)) (R e.0 f.0) refl

    -- the count of a list with an entry more, by the totals at its key
    pub length-normal-push : (es : List (K × ℤ)) (e : K × ℤ) → length (normal R (es ++ e ∷ [])) + some (total R es e.0) ≡ length (normal R es) + some (total R (es ++ e ∷ []) e.0)
    length-normal-push es e =
        let before = total-normal es e.0 in
        let at_itself : part R e.0 e ≡ e.1 = ap (λ (r : Ordering). cond (is_eq r) e.1 (pos 0)) (tied_itself o e.0) in
        let after : total R (es ++ e ∷ []) e.0 ≡ total R es e.0 +ℤ e.1 = omega (arith, ints, total-append es (e ∷ []) e.0, total-one e e.0, at_itself) in
        rw (normal-push es e, after) (rw before at (length-put e (normal R es) (normal_tight es)))

    pub length-normal : (es : List (K × ℤ)) → length (normal R es) ≤ length es
    unfolding normal
    length-normal [] = omega arith
    length-normal (e ∷ es) =
        omega (arith, length-put e (normal R es) (normal_tight es), length-normal es, some_most (total R (normal R es) e.0 +ℤ e.1))

-- The first place at which two ascending lists of integers differ, and that it is the least key of that kind.
use Rattle.std.specs.Prelude.{◌≡◌, ◌≢◌, Bool, true, false, List, [], ◌∷◌, ℤ, pos, Option, Some, None, MatchOption, IfSome, unwrap_or, refl, if◌then◌else◌}
use Rattle.std.proofs.Common.{sym, ap, ◌∙◌, subst}
use Rattle.std.specs.declared.cmp.Ordering.{Ordering}
use Rattle.std.specs.declared.cmp.Ordering.TheVariants.{Less, Equal, Greater}
use Rattle.std.specs.Ordering.{is_eq, is_lt, int_eq, ordering_reverse}
use Rattle.std.specs.Cmp.{IsTotalOrder}
use Rattle.std.specs.List.{AllByRecursion}
use Rattle.std.specs.List.Sorted.{IsStrictlySortedBy}
use Rattle.std.specs.Map.{lookup, keys_of}
use Rattle.std.specs.BTreeMap.{is_at}
use Rattle.std.proofs.lemmas.Bool.Decides.{Decides-int_eq}
use Rattle.std.proofs.lemmas.Cmp.{tied_itself}
use Rattle.std.proofs.lemmas.Map.{lookup-none}
use Rattle.std.proofs.lemmas.Map.Entries.{lookup_head, lookup_tail, none_below_head}
use Rattle.std.proofs.lemmas.Map.Keys.{sorted_head, sorted_tail}
use Rattle.std.proofs.lemmas.Map.Lookups.{CmpEqualImpliesEq}

-- a key and what each list has at it
abbrev pub Gap : Type 0 → Type 0
Gap K = K × ℤ × ℤ

module _ {K : Type 0} (R : K → K → Ordering) where
  -- the integer at a key, 0 where there is none
  abbrev pub at_key : List (K × ℤ) → K → ℤ
  at_key es q = unwrap_or (lookup (is_at (R q)) es) (pos 0)

  -- two heads, by the order of their keys, before the gap of the tails
  abbrev pub gap_by : Ordering → K × ℤ → K × ℤ → Option (Gap K) → Option (Gap K)
  gap_by Less e f rest = Some (e.0, e.1, pos 0)
  gap_by Equal e f rest = if int_eq e.1 f.1 then rest else Some (e.0, e.1, f.1)
  gap_by Greater e f rest = Some (f.0, pos 0, f.1)

  -- the first place where the lists differ
  abbrev pub first_gap : List (K × ℤ) → List (K × ℤ) → Option (Gap K)
  first_gap [] [] = None
  first_gap [] (f ∷ fs) = Some (f.0, pos 0, f.1)
  first_gap (e ∷ es) [] = Some (e.0, e.1, pos 0)
  first_gap (e ∷ es) (f ∷ fs) = gap_by (R e.0 f.0) e f (first_gap es fs)

  -- the least key at which the lists differ, with what each has there
  pub record IsGap (es fs : List (K × ℤ)) (gap : Gap K) : Type 0 where
    pub here_is : at_key es gap.0 ≡ gap.1
    pub there_is : at_key fs gap.0 ≡ gap.2
    pub differs : gap.1 ≢ gap.2
    pub least : (q : K) → is_lt (R q gap.0) ≡ true → at_key es q ≡ at_key fs q

  -- the keys ascend, and no integer is 0
  pub record IsTight (es : List (K × ℤ)) : Type 0 where
    pub ascending : IsStrictlySortedBy R (keys_of es)
    pub not_zero : AllByRecursion (λ e. e.1 ≢ pos 0) es

  pub tight_tail : (e : K × ℤ) (es : List (K × ℤ)) → IsTight (e ∷ es) → IsTight es
  tight_tail e es h = record { ascending = sorted_tail R e.0 (keys_of es) h.ascending; not_zero = h.not_zero.1 }

  -- what holds of each key of two lists holds of the gap's
  gap_key_by : (P : K → Type 0) (o : Ordering) (e f : K × ℤ) (rest : Option (Gap K)) → P e.0 → P f.0 → IfSome rest (λ g. P g.0) → IfSome (gap_by o e f rest) (λ g. P g.0)
  gap_key_by P Less e f rest h k r = h
  gap_key_by P Equal e f rest h k r = elim (int_eq e.1 f.1) as (λ t. IfSome (if t then rest else Some (e.0, e.1, f.1)) (λ g. P g.0)) [ true ↦ r | false ↦ h ]
  gap_key_by P Greater e f rest h k r = k

  pub gap_key : (P : K → Type 0) (es fs : List (K × ℤ)) → AllByRecursion P (keys_of es) → AllByRecursion P (keys_of fs) → IfSome (first_gap es fs) (λ g. P g.0)
  gap_key P [] [] h k = tt
  gap_key P [] (f ∷ fs) h k = k.0
  gap_key P (e ∷ es) [] h k = h.0
  gap_key P (e ∷ es) (f ∷ fs) h k = gap_key_by P (R e.0 f.0) e f (first_gap es fs) h.0 k.0 (gap_key P es fs h.1 k.1)

  module _ (o : IsTotalOrder R) (exact : CmpEqualImpliesEq R) where
    pub lt_less : (r : Ordering) → is_lt r ≡ true → r ≡ Less
    lt_less Less e = refl
    lt_less Equal e = absurd cc
    lt_less Greater e = absurd cc

    pub below_head : (q : K) (e : K × ℤ) (es : List (K × ℤ)) → IsTight (e ∷ es) → R q e.0 ≡ Less → at_key (e ∷ es) q ≡ pos 0
    below_head q e es h p = ap (λ (r : Option ℤ). unwrap_or r (pos 0)) (lookup-none (is_at (R q)) (e ∷ es) (none_below_head o q e es h.ascending p))

    pub at_tie : (q : K) (e : K × ℤ) (es : List (K × ℤ)) → R q e.0 ≡ Equal → at_key (e ∷ es) q ≡ e.1
    at_tie q e es p = ap (λ (r : Option ℤ). unwrap_or r (pos 0)) (lookup_head (is_at (R q)) e es (ap is_eq p))

    pub past_head : (q : K) (e : K × ℤ) (es : List (K × ℤ)) → R q e.0 ≡ Greater → at_key (e ∷ es) q ≡ at_key es q
    past_head q e es p = ap (λ (r : Option ℤ). unwrap_or r (pos 0)) (lookup_tail (is_at (R q)) e es (ap is_eq p))

    pub turned : (x y : K) (r : Ordering) → R x y ≡ r → R y x ≡ ordering_reverse r
    turned x y r p = o.antisymm y x ∙ ap ordering_reverse p

    least_past : (e : K × ℤ) (es fs : List (K × ℤ)) (g : Gap K) → IsTight (e ∷ es) → IsTight (e ∷ fs) → IsGap es fs g → (q : K) → is_lt (R q g.0) ≡ true → (r : Ordering) → R q e.0 ≡ r → at_key (e ∷ es) q ≡ at_key (e ∷ fs) q
    least_past e es fs g h k is q before Less p = below_head q e es h p ∙ sym (below_head q e fs k p)
    least_past e es fs g h k is q before Equal p = at_tie q e es p ∙ sym (at_tie q e fs p)
    least_past e es fs g h k is q before Greater p = past_head q e es p ∙ is.least q before ∙ sym (past_head q e fs p)

    -- one head on both
    same_head : (e : K × ℤ) (es fs : List (K × ℤ)) → IsTight (e ∷ es) → IsTight (e ∷ fs) → (rest : Option (Gap K)) → MatchOption rest (es ≡ fs) (IsGap es fs) → IfSome rest (λ g. R e.0 g.0 ≡ Less) → MatchOption rest (e ∷ es ≡ e ∷ fs) (IsGap (e ∷ es) (e ∷ fs))
    same_head e es fs h k None is after = ap (λ (xs : List (K × ℤ)). e ∷ xs) is
    same_head e es fs h k (Some g) is after =
        let past = turned e.0 g.0 Less after in
        record {
          here_is = past_head g.0 e es past ∙ is.here_is;
          there_is = past_head g.0 e fs past ∙ is.there_is;
          differs = is.differs;
          least = λ q before. least_past e es fs g h k is q before (R q e.0) refl;
        }

    -- the first list has a key that the second doesn't
    less_gap : (e f : K × ℤ) (es fs : List (K × ℤ)) → IsTight (e ∷ es) → IsTight (f ∷ fs) → R e.0 f.0 ≡ Less → IsGap (e ∷ es) (f ∷ fs) (e.0, e.1, pos 0)
    less_gap e f es fs h k p = record {
      here_is = at_tie e.0 e es (tied_itself o e.0);
      there_is = below_head e.0 f fs k p;
      differs = h.not_zero.0;
      least = λ q before.
          let first = lt_less (R q e.0) before in
          below_head q e es h first ∙ sym (below_head q f fs k (o.trans q e.0 f.0 first p));
    }

    greater_gap : (e f : K × ℤ) (es fs : List (K × ℤ)) → IsTight (e ∷ es) → IsTight (f ∷ fs) → R f.0 e.0 ≡ Less → IsGap (e ∷ es) (f ∷ fs) (f.0, pos 0, f.1)
    greater_gap e f es fs h k p = record {
      here_is = below_head f.0 e es h p;
      there_is = at_tie f.0 f fs (tied_itself o f.0);
      differs = λ z. k.not_zero.0 (sym z);
      least = λ q before.
          let first = lt_less (R q f.0) before in
          below_head q e es h (o.trans q f.0 e.0 first p) ∙ sym (below_head q f fs k first);
    }

    tie_gap : (e f : K × ℤ) (es fs : List (K × ℤ)) → IsTight (e ∷ es) → IsTight (f ∷ fs) → R e.0 f.0 ≡ Equal → e.1 ≢ f.1 → IsGap (e ∷ es) (f ∷ fs) (e.0, e.1, f.1)
    tie_gap e f es fs h k p apart = record {
      here_is = at_tie e.0 e es (tied_itself o e.0);
      there_is = at_tie e.0 f fs p;
      differs = apart;
      least = λ q before.
          let first = lt_less (R q e.0) before in
          below_head q e es h first ∙ sym (below_head q f fs k (ap (λ (x : K). R q x) (sym (exact e.0 f.0 p)) ∙ first));
    }

    tie_by : (e f : K × ℤ) (es fs : List (K × ℤ)) → IsTight (e ∷ es) → IsTight (f ∷ fs) → R e.0 f.0 ≡ Equal → MatchOption (first_gap es fs) (es ≡ fs) (IsGap es fs) → (t : Bool) → int_eq e.1 f.1 ≡ t → MatchOption (if t then first_gap es fs else Some (e.0, e.1, f.1)) (e ∷ es ≡ f ∷ fs) (IsGap (e ∷ es) (f ∷ fs))
    tie_by e f es fs h k p is true t =
        let keys = exact e.0 f.0 p in
        let values = (Decides-int_eq e.1 f.1).0 t in
        let heads : e ≡ f = λ i. (keys i, values i) in
        let P : K × ℤ → Type 0 = λ x. MatchOption (first_gap es fs) (e ∷ es ≡ x ∷ fs) (IsGap (e ∷ es) (x ∷ fs)) in
        let k' = subst (λ (x : K × ℤ). IsTight (x ∷ fs)) (sym heads) k in
        subst P heads (same_head e es fs h k' (first_gap es fs) is (gap_key (λ (x : K). R e.0 x ≡ Less) es fs (sorted_head R e.0 (keys_of es) h.ascending) (sorted_head R e.0 (keys_of fs) k'.ascending)))
    tie_by e f es fs h k p is false t = tie_gap e f es fs h k p (λ z. absurd (let yes' = (Decides-int_eq e.1 f.1).1 z in cc))

    gap_at : (e f : K × ℤ) (es fs : List (K × ℤ)) → IsTight (e ∷ es) → IsTight (f ∷ fs) → MatchOption (first_gap es fs) (es ≡ fs) (IsGap es fs) → (r : Ordering) → R e.0 f.0 ≡ r → MatchOption (gap_by r e f (first_gap es fs)) (e ∷ es ≡ f ∷ fs) (IsGap (e ∷ es) (f ∷ fs))
    gap_at e f es fs h k is Less p = less_gap e f es fs h k p
    gap_at e f es fs h k is Equal p = tie_by e f es fs h k p is (int_eq e.1 f.1) refl
    gap_at e f es fs h k is Greater p = greater_gap e f es fs h k (turned e.0 f.0 Greater p)

    -- no gap means that the lists are one
    pub gap_is : (es fs : List (K × ℤ)) → IsTight es → IsTight fs → MatchOption (first_gap es fs) (es ≡ fs) (IsGap es fs)
    gap_is [] [] h k = refl
    gap_is [] (f ∷ fs) h k = record {
      here_is = refl;
      there_is = at_tie f.0 f fs (tied_itself o f.0);
      differs = λ z. k.not_zero.0 (sym z);
      least = λ q before. sym (below_head q f fs k (lt_less (R q f.0) before));
    }
    gap_is (e ∷ es) [] h k = record {
      here_is = at_tie e.0 e es (tied_itself o e.0);
      there_is = refl;
      differs = h.not_zero.0;
      least = λ q before. below_head q e es h (lt_less (R q e.0) before);
    }
    gap_is (e ∷ es) (f ∷ fs) h k = gap_at e f es fs h k (gap_is es fs (tight_tail e es h) (tight_tail f fs k)) (R e.0 f.0) refl

-- The first difference of two lists of sums, by either way to find it, is that of their entries.
use Rattle.std.proofs.Common.{◌≡◌, ◌≢◌, ◌∙◌, sym, ap, subst, refl, Bool, true, false, not, cond, List, [], ◌∷◌, ℤ, pos, ◌↔◌, ◌⊎◌, inl, inr, arith}
use Rattle.std.specs.Prelude.{Option, Some, None, IsTrue, MatchOption, IfSome, option_map, is_some}
use Rattle.std.specs.declared.cmp.Ordering.{Ordering}
use Rattle.std.specs.declared.cmp.Ordering.TheVariants.{Less, Equal, Greater}
use Rattle.std.specs.Ordering.{is_eq, is_lt, int_eq}
use Rattle.std.specs.List.{AllByRecursion, fold}
use Rattle.std.proofs.lemmas.Bool.Decides.{Decides-int_eq}
use Rattle.std.proofs.lemmas.Cmp.{tied_itself}
use Rattle.std.proofs.lemmas.Int.{ints}
use Rattle.mesh_model.specs.Nets.{Pair, is_forward}
use Rattle.edge_chain.specs.declared.edges.Edge.{Edge}
use Rattle.edge_chain.specs.declared.differences.Difference.{Difference}
use Rattle.edge_chain.specs.Chains.{kept_net, HoldSame, IsFirstDifference}
use Rattle.edge_chain.specs.Orders.{is_pair_before_is}
use Rattle.edge_chain.specs.Entries.{entries_from_held}
use Rattle.edge_chain.specs.Edges.{edge_cmp, edge_cmp_total, edge_cmp_exact, pair_of, edge_of}
use Rattle.edge_chain.specs.Gaps.{Gap, first_gap, IsGap, IsTight, gap_is, lt_less}
use Rattle.edge_chain.specs.Totals.{part, total}
use Rattle.edge_chain.specs.Differences.{difference_at, difference_of, edge_at, IsFirst, Finds}
use Rattle.edge_chain.specs.Scans.{is_late, better}
use Rattle.edge_chain.specs.Sums.{entries_of}
use Rattle.edge_chain.proofs.TotalLaws.{total-nil, total-cons, at_total}
use Rattle.edge_chain.proofs.ViewLaws.{AreForward, held_entries, are_entries, same_entries}

-- ---- of gathered lists

module _ (here there : List (Edge × ℤ)) (h : IsTight edge_cmp here) (k : IsTight edge_cmp there) where
  found_by : (gap : Option (Gap Edge)) → MatchOption gap (here ≡ there) (IsGap edge_cmp here there) → Finds here there (option_map difference_of gap)
  found_by None is = λ q. ap (λ (es : List (Edge × ℤ)). total edge_cmp es q) is
  found_by (Some g) is =
      let ours = at_total edge_cmp edge_cmp_total edge_cmp_exact here h in
      let theirs = at_total edge_cmp edge_cmp_total edge_cmp_exact there k in
      record {
        here_is = sym (ours g.0) ∙ is.here_is;
        there_is = sym (theirs g.0) ∙ is.there_is;
        differs = is.differs;
        least = λ q before. sym (ours q) ∙ is.least q before ∙ theirs q;
      }

  pub finds_gap : Finds here there (option_map difference_of (first_gap edge_cmp here there))
  finds_gap = found_by (first_gap edge_cmp here there) (gap_is edge_cmp edge_cmp_total edge_cmp_exact here there h k)

-- ---- by a scan

module _ (here there : List (Edge × ℤ)) where
  -- the best so far is a difference
  abbrev IsFound : Option Difference → Type 0
  IsFound best = IfSome best (λ d. (total edge_cmp here (edge_at d) ≡ d.here) × (total edge_cmp there (edge_at d) ≡ d.there) × (d.here ≢ d.there))

  -- no difference at the edge comes before the best so far
  abbrev IsPassed : Option Difference → Edge → Type 0
  IsPassed best q = MatchOption best (total edge_cmp here q ≡ total edge_cmp there q) (λ d. is_lt (edge_cmp q (edge_at d)) ≡ true → total edge_cmp here q ≡ total edge_cmp there q)

  same_passed : (best : Option Difference) (q : Edge) → total edge_cmp here q ≡ total edge_cmp there q → IsPassed best q
  same_passed None q h = h
  same_passed (Some d) q h = λ _. h

  not_late : (t : Bool) → not t ≡ false → t ≡ true
  not_late true e = refl
  not_late false e = absurd cc

  clash : (t : Bool) → not t ≡ true → t ≡ true → ⊥
  clash true e h = absurd cc
  clash false e h = absurd cc

  before_all : (a b c : Edge) → is_lt (edge_cmp a b) ≡ true → is_lt (edge_cmp b c) ≡ true → is_lt (edge_cmp a c) ≡ true
  before_all a b c f g = ap is_lt (edge_cmp_total.trans a b c (lt_less edge_cmp edge_cmp_total edge_cmp_exact (edge_cmp a b) f) (lt_less edge_cmp edge_cmp_total edge_cmp_exact (edge_cmp b c) g))

  -- a difference that comes before the best so far passes what that passed
  sooner : (best : Option Difference) (edge q : Edge) (x y : ℤ) → is_late best edge ≡ false → IsPassed best q → IsPassed (Some (difference_at edge x y)) q
  sooner None edge q x y late h = λ _. h
  sooner (Some d) edge q x y late h = λ before. h (before_all q edge (edge_at d) before (not_late (is_lt (edge_cmp edge (edge_at d))) late))

  late_passed : (best : Option Difference) (edge : Edge) → is_late best edge ≡ true → IsPassed best edge
  late_passed None edge late = absurd cc
  late_passed (Some d) edge late = λ before. absurd (clash (is_lt (edge_cmp edge (edge_at d))) late before)

  itself_passed : (edge : Edge) (x y : ℤ) → IsPassed (Some (difference_at edge x y)) edge
  itself_passed edge x y = λ before. absurd (let tied : is_lt (edge_cmp edge edge) ≡ false = ap is_lt (tied_itself edge_cmp_total edge) in cc)

  -- what one step keeps, and what it adds
  record Steps (best next : Option Difference) (edge : Edge) : Type 0 where
    found : IsFound best → IsFound next
    kept : (q : Edge) → IsPassed best q → IsPassed next q
    more : IsPassed next edge

  step_differs : (best : Option Difference) (edge : Edge) → is_late best edge ≡ false → (t : Bool) → int_eq (total edge_cmp here edge) (total edge_cmp there edge) ≡ t → Steps best (cond t best (Some (difference_at edge (total edge_cmp here edge) (total edge_cmp there edge)))) edge
  step_differs best edge late true t = record {
    found = λ f. f;
    kept = λ q h. h;
    more = same_passed best edge ((Decides-int_eq (total edge_cmp here edge) (total edge_cmp there edge)).0 t);
  }
  step_differs best edge late false t = record {
    found = λ _. (refl, refl, λ z. let clash = (Decides-int_eq (total edge_cmp here edge) (total edge_cmp there edge)).1 z in absurd cc);
    kept = λ q h. sooner best edge q (total edge_cmp here edge) (total edge_cmp there edge) late h;
    more = itself_passed edge (total edge_cmp here edge) (total edge_cmp there edge);
  }

  step_late : (best : Option Difference) (edge : Edge) (t : Bool) → is_late best edge ≡ t → Steps best (cond t best (cond (int_eq (total edge_cmp here edge) (total edge_cmp there edge)) best (Some (difference_at edge (total edge_cmp here edge) (total edge_cmp there edge))))) edge
  step_late best edge true late = record { found = λ f. f; kept = λ q h. h; more = late_passed best edge late }
  step_late best edge false late = step_differs best edge late (int_eq (total edge_cmp here edge) (total edge_cmp there edge)) refl

  step : (best : Option Difference) (edge : Edge) → Steps best (better here there best edge) edge
  step best edge = step_late best edge (is_late best edge) refl

  abbrev scanned : Option Difference → List (Edge × ℤ) → Option Difference
  scanned best es = fold (λ b e. better here there b e.0) best es

  scan_found : (best : Option Difference) (es : List (Edge × ℤ)) → IsFound best → IsFound (scanned best es)
  scan_found best [] f = f
  scan_found best (e ∷ es) f = scan_found (better here there best e.0) es ((step best e.0).found f)

  scan_kept : (best : Option Difference) (es : List (Edge × ℤ)) (q : Edge) → IsPassed best q → IsPassed (scanned best es) q
  scan_kept best [] q h = h
  scan_kept best (e ∷ es) q h = scan_kept (better here there best e.0) es q ((step best e.0).kept q h)

  scan_more : (best : Option Difference) (es : List (Edge × ℤ)) → AllByRecursion (λ e. IsPassed (scanned best es) e.0) es
  scan_more best [] = tt
  scan_more best (e ∷ es) = (scan_kept (better here there best e.0) es e.0 (step best e.0).more, scan_more (better here there best e.0) es)

  aside : (e : Edge × ℤ) (es : List (Edge × ℤ)) (q : Edge) → is_eq (edge_cmp q e.0) ≡ false → total edge_cmp es q ≡ pos 0 → total edge_cmp (e ∷ es) q ≡ pos 0
  aside e es q untied none =
      let here : part edge_cmp q e ≡ pos 0 = ap (λ (t : Bool). cond t e.1 (pos 0)) untied in
      omega (arith, ints, total-cons edge_cmp e es q, here, none)

  key_past : (P : Edge → Type 0) (e : Edge × ℤ) (es : List (Edge × ℤ)) (q : Edge) → is_eq (edge_cmp q e.0) ≡ false → P q ⊎ (total edge_cmp es q ≡ pos 0) → P q ⊎ (total edge_cmp (e ∷ es) q ≡ pos 0)
  key_past P e es q untied (inl p) = inl p
  key_past P e es q untied (inr none) = inr (aside e es q untied none)

  key_at : (P : Edge → Type 0) (e : Edge × ℤ) (es : List (Edge × ℤ)) → P e.0 → (q : Edge) (r : Ordering) → edge_cmp q e.0 ≡ r → P q ⊎ (total edge_cmp es q ≡ pos 0) → P q ⊎ (total edge_cmp (e ∷ es) q ≡ pos 0)
  key_at P e es h q Less is rest = key_past P e es q (ap is_eq is) rest
  key_at P e es h q Equal is rest = inl (subst P (sym (edge_cmp_exact q e.0 is)) h)
  key_at P e es h q Greater is rest = key_past P e es q (ap is_eq is) rest

  -- what holds of each key holds of an edge, unless that has nothing
  key_or_none : (P : Edge → Type 0) (es : List (Edge × ℤ)) → AllByRecursion (λ e. P e.0) es → (q : Edge) → P q ⊎ (total edge_cmp es q ≡ pos 0)
  key_or_none P [] h q = inr (total-nil edge_cmp q)
  key_or_none P (e ∷ es) h q = key_at P e es h.0 q (edge_cmp q e.0) refl (key_or_none P es h.1 q)

  passed_by : (best : Option Difference) (q : Edge) → IsPassed best q ⊎ (total edge_cmp here q ≡ pos 0) → IsPassed best q ⊎ (total edge_cmp there q ≡ pos 0) → IsPassed best q
  passed_by best q (inl p) k = p
  passed_by best q (inr h) (inl p) = p
  passed_by best q (inr h) (inr k) = same_passed best q (h ∙ sym k)

  finds_by : (best : Option Difference) → IsFound best → ((q : Edge) → IsPassed best q) → Finds here there best
  finds_by None f all = all
  finds_by (Some d) f all = record { here_is = f.0; there_is = f.1; differs = f.2; least = all }

  each_kept : (best : Option Difference) (more es : List (Edge × ℤ)) → AllByRecursion (λ e. IsPassed best e.0) es → AllByRecursion (λ e. IsPassed (scanned best more) e.0) es
  each_kept best more [] h = tt
  each_kept best more (e ∷ es) h = (scan_kept best more e.0 h.0, each_kept best more es h.1)

  pub finds_scan : Finds here there (scanned (scanned None here) there)
  finds_scan =
      let first = scanned None here in
      let last = scanned first there in
      let ours : AllByRecursion (λ e. IsPassed last e.0) here = each_kept first there here (scan_more None here) in
      finds_by last (scan_found first there (scan_found None here tt))
      (λ q. passed_by last q (key_or_none (IsPassed last) here ours q) (key_or_none (IsPassed last) there (scan_more first there) q))

-- ---- as entries

module _ (here there : List (Edge × ℤ)) (h : AreForward here) (k : AreForward there) where
  one_if_none : (r : Option Difference) → Finds here there r → r ≡ None → entries_of here ≡ entries_of there
  one_if_none None is e = same_entries here there is
  one_if_none (Some d) is e = absurd cc

  none_if_one : (r : Option Difference) → Finds here there r → entries_of here ≡ entries_of there → r ≡ None
  none_if_one None is e = refl
  none_if_one (Some d) is e =
      let p : Pair = pair_of (edge_at d) in
      absurd (is.differs (sym is.here_is ∙ sym (held_entries here p) ∙ ap (λ (es : List (Pair × ℤ)). kept_net es p) e ∙ held_entries there p ∙ is.there_is))

  pub none_iff : (r : Option Difference) → Finds here there r → (r ≡ None) ↔ (entries_of here ≡ entries_of there)
  none_iff r is = (one_if_none r is, none_if_one r is)

  forward_difference : (d : Difference) → IsFirst here there d → (t : Bool) → is_forward (pair_of (edge_at d)) ≡ t → IsTrue (is_forward (pair_of (edge_at d)))
  forward_difference d is true e = e
  forward_difference d is false e = absurd (is.differs (sym is.here_is ∙ h (edge_at d) e ∙ sym (k (edge_at d) e) ∙ is.there_is))

  pub least_difference : (r : Option Difference) → Finds here there r → IfSome r (IsFirstDifference (entries_of here) (entries_of there))
  least_difference None is = tt
  least_difference (Some d) is =
      let p : Pair = pair_of (edge_at d) in
      record {
        forward = forward_difference d is (is_forward p) refl;
        here_is = held_entries here p ∙ is.here_is;
        there_is = held_entries there p ∙ is.there_is;
        differs = is.differs;
        least = λ q _ before. held_entries here q ∙ is.least (edge_of q) (sym (is_pair_before_is q p) ∙ before) ∙ sym (held_entries there q);
      }

  -- the entries are one exactly where they hold the same
  pub same_iff : (entries_of here ≡ entries_of there) ↔ HoldSame (entries_of here) (entries_of there)
  same_iff = (
    λ e p _. ap (λ (es : List (Pair × ℤ)). kept_net es p) e,
    entries_from_held (entries_of here) (entries_of there) (are_entries here h) (are_entries there k),
  )

-- the test that nothing was found
pub none_test : {A : Type 0} (r : Option A) (b : Bool) → is_some r ≡ not b → IsTrue b ↔ (r ≡ None)
none_test None true e = (λ _. refl, λ _. refl)
none_test None false e = absurd cc
none_test (Some a) true e = absurd cc
none_test (Some a) false e = (λ h. absurd cc, λ h. absurd cc)

pub iff_then : {A B C : Type 0} → A ↔ B → B ↔ C → A ↔ C
iff_then h k = (λ a. k.0 (h.0 a), λ c. h.1 (k.1 c))

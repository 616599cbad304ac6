-- The nodes are tried each once, and each before all that it comes before.
use Rattle.std.proofs.Common.{◌≡◌, ℕ, zero, suc, ◌+◌, ◌<◌, ◌≤◌, ◌⊎◌, Bool, true, false, cond, List, [], ◌∷◌, length, Some, ap, subst, arith, inl, inr}
use Rattle.std.specs.Prelude.{slice_get}
use Rattle.std.specs.List.{AllByRecursion}
use Rattle.std.specs.List.Sorted.{IsPermutation}
use Rattle.std.proofs.lemmas.Bool.{cond_both, cases_eq, cases_order}
use Rattle.std.proofs.lemmas.List.Sorted.{IsPermutation-refl, IsPermutation-sym, IsPermutation-trans, IsPermutation-cons, IsPermutation-middle}
use Rattle.mesh_model.specs.Graph.{numbers_from, nodes_where}
use Rattle.mesh_model.specs.Accepted.{is_inner}
use Rattle.round_model.specs.Order.{Rules, comes_before, with_node, sorted_nodes, node_order}
use Rattle.mesh_laws.specs.Each.{each_then, each_at}
use Rattle.mesh_laws.specs.Roots.{IsPassing}
use Rattle.round_laws.specs.Before.{before_transitive, before_total}

-- each comes before all that follow it
abbrev pub Ascends : Rules → List ℕ → Type 0
Ascends rules [] = Unit {0}
Ascends rules (v ∷ vs) = AllByRecursion (λ u. comes_before rules v u ≡ true) vs × Ascends rules vs

-- the node isn't the other
abbrev IsApart : ℕ → ℕ → Type 0
IsApart v u = v ≡ u → ⊥

-- no two are equal
abbrev AreApart : List ℕ → Type 0
AreApart [] = Unit {0}
AreApart (v ∷ vs) = AllByRecursion (IsApart v) vs × AreApart vs

-- ---- a node that is put into the list

both_orders : (P : List ℕ → Type 0) (rules : Rules) (v u : ℕ) (us : List ℕ) → (comes_before rules v u ≡ true → P (v ∷ u ∷ us)) → (comes_before rules v u ≡ false → P (u ∷ with_node rules v us)) → P (with_node rules v (u ∷ us))
unfolding with_node
both_orders P rules v u us here later = cond_both (comes_before rules v u) (v ∷ u ∷ us) (u ∷ with_node rules v us) P here later

alone : (P : List ℕ → Type 0) (rules : Rules) (v : ℕ) → P (v ∷ []) → P (with_node rules v [])
unfolding with_node
alone P rules v h = h

pub each_with_node : (P : ℕ → Type 0) (rules : Rules) (v : ℕ) (us : List ℕ) → P v → AllByRecursion P us → AllByRecursion P (with_node rules v us)
each_with_node P rules v [] here h = alone (AllByRecursion P) rules v (here, tt)
each_with_node P rules v (u ∷ us) here h =
    both_orders (AllByRecursion P) rules v u us (λ e. (here, h)) (λ e. (h.0, each_with_node P rules v us here h.1))

ascends_with_node : (rules : Rules) (v : ℕ) (us : List ℕ) → AllByRecursion (IsApart v) us → Ascends rules us → Ascends rules (with_node rules v us)
ascends_with_node rules v [] apart h = alone (Ascends rules) rules v (tt, tt)
ascends_with_node rules v (u ∷ us) apart h =
    both_orders (Ascends rules) rules v u us
    (λ before. ((before, each_then (λ w. comes_before rules u w ≡ true) (λ w. comes_before rules v w ≡ true) us (λ w next. before_transitive rules v u w before next) h.0), h))
    (λ after. (each_with_node (λ w. comes_before rules u w ≡ true) rules v us (other_way (before_total rules v u apart.0) after) h.0, ascends_with_node rules v us apart.1 h.1))
  where
    other_way : (comes_before rules v u ≡ true) ⊎ (comes_before rules u v ≡ true) → comes_before rules v u ≡ false → comes_before rules u v ≡ true
    other_way (inl is) never = absurd (cc)
    other_way (inr is) never = is

permutes_with_node : (rules : Rules) (v : ℕ) (us : List ℕ) → IsPermutation (v ∷ us) (with_node rules v us)
permutes_with_node rules v [] = alone (IsPermutation (v ∷ [])) rules v (IsPermutation-refl (v ∷ []))
permutes_with_node rules v (u ∷ us) =
    both_orders (IsPermutation (v ∷ u ∷ us)) rules v u us (λ e. IsPermutation-refl (v ∷ u ∷ us))
    (λ e. IsPermutation-trans (v ∷ u ∷ us) (u ∷ v ∷ us) (u ∷ with_node rules v us)
    (IsPermutation-sym (u ∷ v ∷ us) (v ∷ u ∷ us) (IsPermutation-middle (u ∷ []) v us))
    (IsPermutation-cons u (v ∷ us) (with_node rules v us) (permutes_with_node rules v us)))

-- ---- the sorted nodes

each_sorted : (P : ℕ → Type 0) (rules : Rules) (vs : List ℕ) → AllByRecursion P vs → AllByRecursion P (sorted_nodes rules vs)
unfolding sorted_nodes
each_sorted P rules [] h = tt
each_sorted P rules (v ∷ vs) h = each_with_node P rules v (sorted_nodes rules vs) h.0 (each_sorted P rules vs h.1)

ascends_sorted : (rules : Rules) (vs : List ℕ) → AreApart vs → Ascends rules (sorted_nodes rules vs)
unfolding sorted_nodes
ascends_sorted rules [] h = tt
ascends_sorted rules (v ∷ vs) h = ascends_with_node rules v (sorted_nodes rules vs) (each_sorted (IsApart v) rules vs h.0) (ascends_sorted rules vs h.1)

permutes_sorted : (rules : Rules) (vs : List ℕ) → IsPermutation vs (sorted_nodes rules vs)
unfolding sorted_nodes
permutes_sorted rules [] = IsPermutation-refl []
permutes_sorted rules (v ∷ vs) =
    IsPermutation-trans (v ∷ vs) (v ∷ sorted_nodes rules vs) (with_node rules v (sorted_nodes rules vs))
    (IsPermutation-cons v vs (sorted_nodes rules vs) (permutes_sorted rules vs)) (permutes_with_node rules v (sorted_nodes rules vs))

-- ---- the inner nodes

with_first : (P : ℕ → Type 0) (first : ℕ) (t : Bool) (vs : List ℕ) → (t ≡ true → P first) → AllByRecursion P vs → AllByRecursion P (cond t (first ∷ vs) vs)
with_first P first t vs here h = cond_both t (first ∷ vs) vs (AllByRecursion P) (λ e. (here e, h)) (λ e. h)

-- each that is listed is in range and passes
each_listed : (test : ℕ → Bool) (end n first : ℕ) → first + n ≤ end → AllByRecursion (IsPassing test first end) (numbers_from first n test)
unfolding numbers_from
each_listed test end zero first h = tt
each_listed test end (suc n) first h =
    with_first (IsPassing test first end) first (test first) (numbers_from (first + 1) n test) (λ e. record { low = omega arith; high = omega arith; passes = e })
    (each_then (IsPassing test (first + 1) end) (IsPassing test first end) (numbers_from (first + 1) n test) (λ v is. record { low = omega arith; high = is.high; passes = is.passes }) (each_listed test end n (first + 1) (omega arith)))

listed_apart : (test : ℕ → Bool) (n first : ℕ) → AreApart (numbers_from first n test)
unfolding numbers_from
listed_apart test zero first = tt
listed_apart test (suc n) first =
    cond_both (test first) (first ∷ numbers_from (first + 1) n test) (numbers_from (first + 1) n test) AreApart
    (λ e. (each_then (IsPassing test (first + 1) (first + 1 + n)) (IsApart first) (numbers_from (first + 1) n test) (λ v is same. omega arith) (each_listed test (first + 1 + n) n (first + 1) (omega arith)), listed_apart test n (first + 1)))
    (λ e. listed_apart test n (first + 1))

-- ---- the order

-- the inner nodes, ascending by number
abbrev pub inner_nodes : Rules → List ℕ
inner_nodes rules = nodes_where (length rules.mesh.index.nodes) (is_inner rules.mesh.index.fields)

pub order_permutes : (rules : Rules) → IsPermutation (inner_nodes rules) (node_order rules)
unfolding node_order
order_permutes rules = permutes_sorted rules (inner_nodes rules)

pub order_ascends : (rules : Rules) → Ascends rules (node_order rules)
unfolding node_order
order_ascends rules = ascends_sorted rules (inner_nodes rules) (listed_apart (is_inner rules.mesh.index.fields) (length rules.mesh.index.nodes) 0)

-- a node that is neither root nor sink
pub record IsInnerNode (rules : Rules) (v : ℕ) : Type 0 where
  pub node : v < length rules.mesh.index.nodes
  pub inner : is_inner rules.mesh.index.fields v ≡ true

pub order_is_inner : (rules : Rules) → AllByRecursion (IsInnerNode rules) (node_order rules)
unfolding node_order
order_is_inner rules =
    each_sorted (IsInnerNode rules) rules (inner_nodes rules)
    (each_then (IsPassing (is_inner rules.mesh.index.fields) 0 (length rules.mesh.index.nodes)) (IsInnerNode rules) (inner_nodes rules) (λ v is. record { node = is.high; inner = is.passes }) (each_listed (is_inner rules.mesh.index.fields) (length rules.mesh.index.nodes) (length rules.mesh.index.nodes) 0 (omega arith)))

-- ---- each inner node has a place in the order

pub first_is : {X : Type 0} (x y : X) → slice_get (x ∷ []) 0 ≡ Some y → x ≡ y
first_is x y e = cc

-- a place at which the node stands
abbrev HasPlace : List ℕ → ℕ → Type 0
HasPlace vs w = (k : ℕ) × (slice_get vs k ≡ Some w)

after_one : (v w : ℕ) (vs : List ℕ) → HasPlace vs w → HasPlace (v ∷ vs) w
after_one v w vs at = (suc at.0, at.1)

place_past : (u v w : ℕ) (us vs : List ℕ) → (HasPlace (v ∷ us) w → HasPlace vs w) → (k : ℕ) → slice_get (v ∷ u ∷ us) k ≡ Some w → HasPlace (u ∷ vs) w
place_past u v w us vs go zero e = after_one u w vs (go (0, e))
place_past u v w us vs go (suc zero) e = (0, e)
place_past u v w us vs go (suc (suc k)) e = after_one u w vs (go (suc k, e))

place_with_node : (rules : Rules) (v w : ℕ) (us : List ℕ) → HasPlace (v ∷ us) w → HasPlace (with_node rules v us) w
place_with_node rules v w [] at = alone (λ (vs : List ℕ). HasPlace vs w) rules v at
place_with_node rules v w (u ∷ us) at =
    both_orders (λ (vs : List ℕ). HasPlace vs w) rules v u us (λ e. at) (λ e. place_past u v w us (with_node rules v us) (place_with_node rules v w us) at.0 at.1)

place_sorted : (rules : Rules) (w : ℕ) (vs : List ℕ) (k : ℕ) → slice_get vs k ≡ Some w → HasPlace (sorted_nodes rules vs) w
unfolding sorted_nodes
place_sorted rules w [] k e = absurd (cc)
place_sorted rules w (v ∷ vs) zero e = place_with_node rules v w (sorted_nodes rules vs) (0, e)
place_sorted rules w (v ∷ vs) (suc k) e = place_with_node rules v w (sorted_nodes rules vs) (after_one v w (sorted_nodes rules vs) (place_sorted rules w vs k e))

some_of : (v w : ℕ) → v ≡ w → slice_get (v ∷ []) 0 ≡ Some w
some_of v w e = cc

place_listed : (test : ℕ → Bool) (n first w : ℕ) → first ≤ w → w < first + n → test w ≡ true → HasPlace (numbers_from first n test) w
unfolding numbers_from
place_listed test zero first w low high e = absurd (omega arith)
place_listed test (suc n) first w low high e =
    elim (cases_eq first w) [
      | inl same ↦ cond_both (test first) (first ∷ numbers_from (first + 1) n test) (numbers_from (first + 1) n test) (λ (vs : List ℕ). HasPlace vs w)
          (λ passes. (0, some_of first w same)) (λ fails. absurd (let here = ap test same in cc))
      | inr apart ↦
          let later = place_listed test n (first + 1) w (above apart) (omega arith) e in
          cond_both (test first) (first ∷ numbers_from (first + 1) n test) (numbers_from (first + 1) n test) (λ (vs : List ℕ). HasPlace vs w)
          (λ passes. after_one first w (numbers_from (first + 1) n test) later) (λ fails. later)
    ]
  where
    above : (first ≡ w → ⊥) → first + 1 ≤ w
    above apart = elim (cases_order first w) [
      | inl same ↦ absurd (apart same)
      | inr (inl less) ↦ omega arith
      | inr (inr more) ↦ absurd (omega arith)
    ]

pub order_has : (rules : Rules) (v : ℕ) → IsInnerNode rules v → (k : ℕ) × (slice_get (node_order rules) k ≡ Some v)
unfolding node_order
order_has rules v is =
    let listed = place_listed (is_inner rules.mesh.index.fields) (length rules.mesh.index.nodes) 0 v (omega arith) (let node = is.node in omega arith) is.inner in
    place_sorted rules v (inner_nodes rules) listed.0 listed.1

-- ---- an ascending list by places

pub ascends_at : (rules : Rules) (vs : List ℕ) → Ascends rules vs → (i j u v : ℕ) → i < j → slice_get vs i ≡ Some u → slice_get vs j ≡ Some v → comes_before rules u v ≡ true
ascends_at rules [] h i j u v less at_i at_j = absurd (cc)
ascends_at rules (w ∷ ws) h i zero u v less at_i at_j = absurd (omega arith)
ascends_at rules (w ∷ ws) h zero (suc j) u v less at_i at_j =
    each_at (λ x. comes_before rules u x ≡ true) ws j v at_j (subst (λ (x : ℕ). AllByRecursion (λ y. comes_before rules x y ≡ true) ws) (first_is w u at_i) h.0)
ascends_at rules (w ∷ ws) h (suc i) (suc j) u v less at_i at_j = ascends_at rules ws h.1 i j u v (omega arith) at_i at_j

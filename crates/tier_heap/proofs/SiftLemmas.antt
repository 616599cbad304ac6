-- A step of an id up or down the heap, and what stands at the ends of such a walk.
use Rattle.std.proofs.Common.{◌≡◌, ◌≢◌, ℕ, zero, suc, ◌-◌, ◌/◌, ◌<◌, ◌≤◌, List, Option, arith, sym, ◌∙◌, ap, subst, ⊎_elim}
use Rattle.std.proofs.lemmas.List.Edits.{Swapped}
use Rattle.std.proofs.lemmas.Bool.{cases_eq}
use Rattle.tier_heap.specs.EndHeap.{id_at, IsParent, IsBehind, IsOrdered, IsLoose, IsLooseBelow, IsFirstChild, Leads, IsIndex, Exchanges}
use Rattle.tier_heap.specs.declared.end_heap.EndHeap.{EndHeap}
use Rattle.tier_heap.proofs.ExchangeLemmas.{Exchanged, exchanged}
use Rattle.tier_heap.proofs.OrderLemmas.{not_ahead_self, ahead_not_behind, behind_trans}

-- a heap of which only the ids at two places have changed theirs
pub record IsStep (old new : EndHeap) (a b : ℕ) : Type 0 where
  pub order : Swapped (id_at old) (id_at new) a b
  pub count : new.count ≡ old.count
  pub end : new.end ≡ old.end

pub is_step : (old new : EndHeap) (a b : ℕ) → IsIndex old → Exchanges old new a b → a < old.count → b < old.count → IsStep old new a b
is_step old new a b index e a_in b_in =
    let x : Exchanged old new a b = exchanged old new a b index e.order e.places (omega (arith, a_in, index.counted)) (omega (arith, b_in, index.counted)) in
    record { order = x.order; count = e.count; end = e.end }

-- a child before which no sibling comes
pub is_first_child : (ranks : List (Option ℕ)) (heap : EndHeap) (at child : ℕ) → IsParent heap at child → ((c : ℕ) → IsParent heap at c → c ≢ child → IsBehind ranks heap c child) → IsFirstChild ranks heap at child
is_first_child ranks heap at child parent siblings =
    record {
      parent = parent;
      first = λ c pc. ⊎_elim
          (λ (e : c ≡ child). subst (λ (k : ℕ). IsBehind ranks heap k child) (sym e) (not_ahead_self heap.end ranks _))
          (λ (ne : c ≢ child). siblings c pc ne)
          (cases_eq c child);
    }

parent_same : (old new : EndHeap) (p c : ℕ) → new.count ≡ old.count → IsParent new p c → IsParent old p c
parent_same old new p c e parent = record { first = parent.first; second = parent.second; counted = rw e at parent.counted }

behind_moved : (ranks : List (Option ℕ)) (old new : EndHeap) (c p c' p' : ℕ) → new.end ≡ old.end → id_at new c ≡ id_at old c' → id_at new p ≡ id_at old p' → IsBehind ranks old c' p' → IsBehind ranks new c p
behind_moved ranks old new c p c' p' end c_is p_is behind = rw (end, c_is, p_is) behind

-- the id at a place has gone up to its parent
pub loose_up : (ranks : List (Option ℕ)) (old new : EndHeap) (a q : ℕ) → IsStep old new a q → IsParent old q a → IsLoose ranks old a → IsLoose ranks new q
loose_up ranks old new a q step parent loose = record { behind = behind; across = across }
  where
    behind : (p c : ℕ) → IsParent new p c → p ≢ q → c ≢ q → IsBehind ranks new c p
    behind p c pc p_q c_q =
        let pc' : IsParent old p c = parent_same old new p c step.count pc in
        ⊎_elim
        (λ (c_a : c ≡ a). absurd (p_q (omega (arith, c_a, pc'.first, pc'.second, parent.first, parent.second))))
        (λ (c_a : c ≢ a). ⊎_elim
        (λ (p_a : p ≡ a). behind_moved ranks old new c p c q step.end (step.order.2 c c_a c_q) (ap (id_at new) p_a ∙ step.order.0)
        (loose.across q c parent (subst (λ (k : ℕ). IsParent old k c) p_a pc')))
        (λ (p_a : p ≢ a). behind_moved ranks old new c p c p step.end (step.order.2 c c_a c_q) (step.order.2 p p_a p_q) (loose.behind p c pc' p_a c_a))
        (cases_eq p a))
        (cases_eq c a)

    across : (p c : ℕ) → IsParent new p q → IsParent new q c → IsBehind ranks new c p
    across p c pq qc =
        let pq' : IsParent old p q = parent_same old new p q step.count pq in
        let qc' : IsParent old q c = parent_same old new q c step.count qc in
        let p_a : p ≢ a = omega (arith, pq'.first, parent.first) in
        let p_q : p ≢ q = omega (arith, pq'.first) in
        let q_a : q ≢ a = omega (arith, parent.first) in
        let c_q : c ≢ q = omega (arith, qc'.first) in
        let up : IsBehind ranks old q p = loose.behind p q pq' p_a q_a in
        ⊎_elim
        (λ (c_a : c ≡ a). behind_moved ranks old new c p q p step.end (ap (id_at new) c_a ∙ step.order.0) (step.order.2 p p_a p_q) up)
        (λ (c_a : c ≢ a). behind_moved ranks old new c p c p step.end (step.order.2 c c_a c_q) (step.order.2 p p_a p_q)
        (behind_trans old.end ranks _ _ _ up (loose.behind q c qc' q_a c_a)))
        (cases_eq c a)

-- the id at a place has gone down to the child that comes first
pub loose_down : (ranks : List (Option ℕ)) (old new : EndHeap) (a d : ℕ) → IsStep old new a d → Leads ranks old a d → IsLooseBelow ranks old a → IsLooseBelow ranks new d
loose_down ranks old new a d step leads loose = record { behind = behind; across = across }
  where
    behind : (p c : ℕ) → IsParent new p c → p ≢ d → IsBehind ranks new c p
    behind p c pc p_d =
        let pc' : IsParent old p c = parent_same old new p c step.count pc in
        ⊎_elim
        (λ (c_d : c ≡ d).
        let p_a : p ≡ a = omega (arith, c_d, pc'.first, pc'.second, leads.is_first.parent.first, leads.is_first.parent.second) in
        behind_moved ranks old new c p a d step.end (ap (id_at new) c_d ∙ step.order.1) (ap (id_at new) p_a ∙ step.order.0)
        (ahead_not_behind old.end ranks _ _ leads.ahead))
        (λ (c_d : c ≢ d). ⊎_elim
        (λ (c_a : c ≡ a).
        let p_a : p ≢ a = omega (arith, c_a, pc'.first) in
        behind_moved ranks old new c p d p step.end (ap (id_at new) c_a ∙ step.order.0) (step.order.2 p p_a p_d)
        (loose.across p d (subst (λ (k : ℕ). IsParent old p k) c_a pc') leads.is_first.parent))
        (λ (c_a : c ≢ a). ⊎_elim
        (λ (p_a : p ≡ a). behind_moved ranks old new c p c d step.end (step.order.2 c c_a c_d) (ap (id_at new) p_a ∙ step.order.0)
        (leads.is_first.first c (subst (λ (k : ℕ). IsParent old k c) p_a pc')))
        (λ (p_a : p ≢ a). behind_moved ranks old new c p c p step.end (step.order.2 c c_a c_d) (step.order.2 p p_a p_d) (loose.behind p c pc' p_a))
        (cases_eq p a))
        (cases_eq c a))
        (cases_eq c d)

    across : (p c : ℕ) → IsParent new p d → IsParent new d c → IsBehind ranks new c p
    across p c pd dc =
        let dc' : IsParent old d c = parent_same old new d c step.count dc in
        let p_a : p ≡ a = omega (arith, pd.first, pd.second, leads.is_first.parent.first, leads.is_first.parent.second) in
        let d_a : d ≢ a = omega (arith, leads.is_first.parent.first) in
        let c_a : c ≢ a = omega (arith, dc'.first, leads.is_first.parent.first) in
        let c_d : c ≢ d = omega (arith, dc'.first) in
        behind_moved ranks old new c p c d step.end (step.order.2 c c_a c_d) (ap (id_at new) p_a ∙ step.order.0) (loose.behind d c dc' d_a)

first_upto : (ranks : List (Option ℕ)) (heap : EndHeap) → IsOrdered ranks heap → (n k : ℕ) → k ≤ n → k < heap.count → IsBehind ranks heap k 0
first_upto ranks heap ordered zero k le k_in =
    let k_0 : k ≡ 0 = omega (arith, le) in
    subst (λ (i : ℕ). IsBehind ranks heap i 0) (sym k_0) (not_ahead_self heap.end ranks _)
first_upto ranks heap ordered (suc n) k le k_in =
    ⊎_elim
    (λ (k_0 : k ≡ 0). subst (λ (i : ℕ). IsBehind ranks heap i 0) (sym k_0) (not_ahead_self heap.end ranks _))
    (λ (k_0 : k ≢ 0).
    let p : ℕ = (k - 1) / 2 in
    let parent : IsParent heap p k = record { first = omega arith; second = omega arith; counted = k_in } in
    behind_trans heap.end ranks _ _ _ (first_upto ranks heap ordered n p (omega arith) (omega arith)) (ordered.behind p k parent))
    (cases_eq k 0)

-- the id at the first place comes before all others
pub first_ahead : (ranks : List (Option ℕ)) (heap : EndHeap) → IsOrdered ranks heap → (k : ℕ) → k < heap.count → IsBehind ranks heap k 0
first_ahead ranks heap ordered k k_in = first_upto ranks heap ordered k k (omega arith) k_in

-- How the heaps of a tier go along with it.
use Rattle.std.proofs.Common.{◌≡◌, ◌≢◌, ℕ, ◌+◌, ◌<◌, inl, inr, List, length, Option, refl, sym, subst, ◌∙◌, arith, below_more}
use Rattle.std.specs.Prelude.{slice_index, slice_set}
use Rattle.std.proofs.lemmas.Bool.{cases_eq}
use Rattle.std.proofs.lemmas.List.{length-set}
use Rattle.tier_heap.specs.Entries.{rank_at}
use Rattle.tier_heap.specs.Laws.{rank_at-set_same, rank_at-set_other}
use Rattle.tier_budget.specs.Heaps.{IsHeapOf, Refreshes}

-- the same is told of each patch
pub heap_kept : (n : ℕ) (told now : ℕ → Option ℕ) (heap : List (Option ℕ)) → ((p : ℕ) → p < n → told p ≡ now p) → IsHeapOf n told heap → IsHeapOf n now heap
heap_kept n told now heap same is = record { all_patches = is.all_patches; each = λ p within. is.each p within ∙ same p within }

-- one patch was set to what is told of it now
pub heap_set : (n : ℕ) (told now : ℕ → Option ℕ) (heap : List (Option ℕ)) (q : ℕ) (o : Option ℕ) → o ≡ now q → ((p : ℕ) → p ≢ q → told p ≡ now p) → IsHeapOf n told heap → IsHeapOf n now (slice_set heap q o)
heap_set n told now heap q o here others is = record {
  all_patches = length-set heap q o ∙ is.all_patches;
  each = λ p within. elim (cases_eq p q) [
    | inl same ↦ subst (λ (m : ℕ). rank_at (slice_set heap q o) m ≡ now m) (sym same) (rank_at-set_same heap q o (let many = is.all_patches in omega arith) ∙ here)
    | inr ne ↦ rank_at-set_other heap q p o ne ∙ is.each p within ∙ others p ne
  ];
}

-- nothing was set yet
pub refresh_none : (old : List (Option ℕ)) (listed : List ℕ) (told : ℕ → Option ℕ) → Refreshes old 0 listed told old
refresh_none old listed told = record { all_patches = refl; each = λ p. inr (λ i within. absurd (omega arith), refl) }

-- one more of the listed patches was set
pub refresh_more : (old heap : List (Option ℕ)) (i : ℕ) (listed : List ℕ) (told : ℕ → Option ℕ) (q : ℕ) (o : Option ℕ) → q ≡ slice_index listed i → q < length old → o ≡ told q → Refreshes old i listed told heap → Refreshes old (i + 1) listed told (slice_set heap q o)
refresh_more old heap i listed told q o here within is_told so_far = record {
  all_patches = length-set heap q o ∙ so_far.all_patches;
  each = λ p. elim (cases_eq p q) [
    | inl same ↦ inl (subst (λ (m : ℕ). rank_at (slice_set heap q o) m ≡ told m) (sym same) (rank_at-set_same heap q o (let many = so_far.all_patches in omega arith) ∙ is_told))
    | inr ne ↦ elim (so_far.each p) [
      | inl set ↦ inl (rank_at-set_other heap q p o ne ∙ set)
      | inr left ↦ inr (
        below_more (λ (j : ℕ). slice_index listed j ≢ p) i left.0 (λ same. ne (sym same ∙ sym here)),
        rank_at-set_other heap q p o ne ∙ left.1,
      )
    ]
  ];
}

-- all patches were set, one by one
pub heap_more : (i : ℕ) (told : ℕ → Option ℕ) (heap : List (Option ℕ)) (q : ℕ) (o : Option ℕ) → q ≡ i → i < length heap → o ≡ told q → ((p : ℕ) → p < i → rank_at heap p ≡ told p) → (p : ℕ) → p < i + 1 → rank_at (slice_set heap q o) p ≡ told p
heap_more i told heap q o here within is_told so_far =
    below_more (λ (p : ℕ). rank_at (slice_set heap q o) p ≡ told p) i
    (λ p less. rank_at-set_other heap q p o (omega arith) ∙ so_far p less)
    (subst (λ (m : ℕ). rank_at (slice_set heap q o) m ≡ told m) here (rank_at-set_same heap q o (omega arith) ∙ is_told))

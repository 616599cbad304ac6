-- A search of a heap finds the first id that fits.
use Rattle.std.proofs.Common.{◌≡◌, ◌≢◌, ℕ, zero, suc, ◌+◌, ◌*◌, ◌-◌, ◌/◌, ◌<◌, ◌≤◌, ◌⊎◌, inl, inr, Bool, true, false, List, Option, Some, None, length, IsSome, MatchOption, refl, sym, ap, subst, ◌∙◌, arith}
use Rattle.std.proofs.lemmas.Bool.{cases_eq, both_ways}
use Rattle.tier_heap.specs.Entries.{rank_at, is_above, NoneFits, IsGreatestBy}
use Rattle.tier_heap.specs.Laws.{id_in_range, above_from_not_below}
use Rattle.tier_heap.specs.EndHeap.{entry_of, is_ahead, id_at, place_of, IsIndex, IsBehind, IsOrdered, IsEndHeap}
use Rattle.tier_heap.specs.Searches.{IsUnder, Top, Child, IsFound, IsOutdone, Searches, NoneIsFound, IsFirstFound}
use Rattle.tier_heap.specs.declared.end_heap.End.TheVariants.{Greatest, Least}
use Rattle.tier_heap.specs.declared.end_heap.EndHeap.{EndHeap}
use Rattle.tier_heap.proofs.OrderLemmas.{not_ahead_self, ahead_not_behind, behind_trans}
use Rattle.tier_heap.proofs.EndLemmas.{rank_from_some, entry_is, above_along}

-- ---- the tree of places

under_not_before : {top place : ℕ} → IsUnder top place → top ≤ place
under_not_before Top = omega arith
under_not_before (Child above first second) = let before = under_not_before above in omega arith

-- what is under a place is the place, or under one of its children
under_cases : {top place : ℕ} → IsUnder top place → (place ≡ top) ⊎ (IsUnder (2 * top + 1) place ⊎ IsUnder (2 * top + 2) place)
under_cases Top = inl refl
under_cases {top} (Child {parent} {child} above first second) =
    elim (under_cases above) [
      | inl same ↦ elim (cases_eq child (2 * top + 1)) [
        | inl left ↦ inr (inl (subst (IsUnder (2 * top + 1)) (sym left) Top))
        | inr ne ↦
            let right : child ≡ 2 * top + 2 = omega arith in
            inr (inr (subst (IsUnder (2 * top + 2)) (sym right) Top))
      ]
      | inr under ↦ elim under [
        | inl left ↦ inr (inl (Child left first second))
        | inr right ↦ inr (inr (Child right first second))
      ]
    ]

under_by : (fuel place : ℕ) → place < fuel → IsUnder 0 place
under_by zero place less = absurd (omega arith)
under_by (suc fuel) zero less = Top
under_by (suc fuel) (suc k) less = Child (under_by fuel (k / 2) (omega arith)) (omega arith) (omega arith)

-- each place is under the first
under_first : (place : ℕ) → IsUnder 0 place
under_first place = under_by (suc place) place (omega arith)

-- what is under a place doesn't come before it
under_behind : (ranks : List (Option ℕ)) (heap : EndHeap) (top place : ℕ) → IsOrdered ranks heap → IsUnder top place → place < heap.count → IsBehind ranks heap place top
under_behind ranks heap top _ ordered Top within = not_ahead_self heap.end ranks (id_at heap top)
under_behind ranks heap top _ ordered (Child {parent} {child} above first second) within =
    behind_trans heap.end ranks (id_at heap top) (id_at heap parent) (id_at heap child)
    (under_behind ranks heap top parent ordered above (omega arith))
    (ordered.behind parent child (record { first = first; second = second; counted = within }))

-- ---- the steps of a search

module _ (ranks : List (Option ℕ)) (heap : EndHeap) (answers : ℕ → Bool → Type 0) where
  pub found_within : (found : Option ℕ) → IsFound heap answers found → MatchOption found (Unit {0}) (λ best. best < heap.count)
  found_within None is = tt
  found_within (Some best) is = is.0

  outdone_if_refused : (found : Option ℕ) (place : ℕ) → answers (id_at heap place) false → IsOutdone ranks heap answers found place
  outdone_if_refused None place refused = refused
  outdone_if_refused (Some best) place refused = inl refused

  -- there is nothing under the place
  pub search_past : (top : ℕ) (found : Option ℕ) → IsFound heap answers found → heap.count ≤ top → Searches ranks heap answers top found found
  search_past top found is past = record {
    fits = is;
    kept = λ place outdone. outdone;
    under = λ place under within. absurd (let before = under_not_before under in omega arith);
  }

  -- the place doesn't come before the one found
  pub search_behind : (top : ℕ) (found : Option ℕ) (told : Bool) → IsOrdered ranks heap → IsFound heap answers found
      → MatchOption found (told ≡ true) (λ best. told ≡ is_ahead heap.end ranks (id_at heap top) (id_at heap best)) → told ≡ false → Searches ranks heap answers top found found
  search_behind top None told ordered is leads behind = absurd (both_ways told behind leads)
  search_behind top (Some best) told ordered is leads behind = record {
    fits = is;
    kept = λ place outdone. outdone;
    under = λ place under within. inr (behind_trans heap.end ranks (id_at heap best) (id_at heap top) (id_at heap place) (sym leads ∙ behind) (under_behind ranks heap top place ordered under within));
  }

  outdone_by_next : (top : ℕ) (found : Option ℕ) (told : Bool) (place : ℕ)
      → MatchOption found (told ≡ true) (λ best. told ≡ is_ahead heap.end ranks (id_at heap top) (id_at heap best)) → told ≡ true
      → IsOutdone ranks heap answers found place → IsOutdone ranks heap answers (Some top) place
  outdone_by_next top None told place leads ahead outdone = inl outdone
  outdone_by_next top (Some best) told place leads ahead outdone = elim outdone [
    | inl refused ↦ inl refused
    | inr behind ↦ inr (behind_trans heap.end ranks (id_at heap top) (id_at heap best) (id_at heap place) (ahead_not_behind heap.end ranks (id_at heap top) (id_at heap best) (sym leads ∙ ahead)) behind)
  ]

  -- the place comes before the one found, and fits
  pub search_taken : (top : ℕ) (found : Option ℕ) (told : Bool) → IsOrdered ranks heap → top < heap.count
      → MatchOption found (told ≡ true) (λ best. told ≡ is_ahead heap.end ranks (id_at heap top) (id_at heap best)) → told ≡ true → answers (id_at heap top) true → Searches ranks heap answers top found (Some top)
  search_taken top found told ordered there leads ahead fits = record {
    fits = (there, fits);
    kept = λ place outdone. outdone_by_next top found told place leads ahead outdone;
    under = λ place under within. inr (under_behind ranks heap top place ordered under within);
  }

  -- the place doesn't fit, and what is under its children is searched
  pub search_both : (top : ℕ) (before middle found : Option ℕ) → answers (id_at heap top) false → Searches ranks heap answers (2 * top + 1) before middle → Searches ranks heap answers (2 * top + 2) middle found → Searches ranks heap answers top before found
  search_both top before middle found refused first second = record {
    fits = second.fits;
    kept = λ place outdone. second.kept place (first.kept place outdone);
    under = λ place under within. elim (under_cases under) [
      | inl same ↦ outdone_if_refused found place (subst (λ (k : ℕ). answers (id_at heap k) false) (sym same) refused)
      | inr child ↦ elim child [
        | inl left ↦ second.kept place (first.under place left within)
        | inr right ↦ second.under place right within
      ]
    ];
  }

  -- ---- a search from the first place

  pub none_found : Searches ranks heap answers 0 None None → NoneIsFound heap answers
  none_found search = λ place within. search.under place (under_first place) within

  pub first_found : (place id : ℕ) → id ≡ id_at heap place → Searches ranks heap answers 0 None (Some place) → IsFirstFound ranks heap answers id
  first_found place id is search = record {
    place = place;
    within = search.fits.0;
    is = is;
    fits = subst (λ (k : ℕ). answers k true) (sym is) search.fits.1;
    first = λ other within. search.under other (under_first other) within;
  }

  -- ---- what it tells of the map

  is_there : (id rank : ℕ) → IsEndHeap ranks heap → rank_at ranks id ≡ Some rank → (place_of heap id < heap.count) × (id_at heap (place_of heap id) ≡ id)
  is_there id rank is_heap entry =
      let some : IsSome (rank_at ranks id) = rw entry refl in
      let within : id < length ranks = id_in_range ranks id some in
      (is_heap.lists.placed id within some, is_heap.lists.index.id_in id (rw is_heap.lists.all_ids within))

  pub none_fits : IsEndHeap ranks heap → NoneIsFound heap answers → NoneFits ranks answers
  none_fits is_heap none = λ id rank entry.
      let there = is_there id rank is_heap entry in
      subst (λ (k : ℕ). answers k false) there.1 (none (place_of heap id) there.0)

  pub greatest_fits : (id : ℕ) → IsEndHeap ranks heap → heap.end ≡ Greatest → IsFirstFound ranks heap answers id → IsGreatestBy ranks answers id
  unfolding is_ahead
  greatest_fits id is_heap end found =
      let index = is_heap.lists.index in
      let place_in : found.place < length heap.order.items = (let within = found.within in let counted = index.counted in omega arith) in
      let at_place = index.place_at found.place place_in in
      let some : IsSome (rank_at ranks (id_at heap found.place)) = is_heap.lists.ranked (id_at heap found.place) (rw (← is_heap.lists.all_ids) (index.ids found.place place_in)) (rw at_place found.within) in
      let entry = rank_from_some _ (subst (λ (k : ℕ). IsSome (rank_at ranks k)) (sym found.is) some) in
      record {
        rank = entry.0;
        entry = entry.1;
        fits = found.fits;
        above = λ other other_rank other_in ne.
            let there = is_there other other_rank is_heap other_in in
            elim (found.first (place_of heap other) there.0) [
              | inl refused ↦ inl (subst (λ (k : ℕ). answers k false) there.1 refused)
              | inr behind ↦
                  let sooner : is_ahead heap.end ranks other id ≡ false = rw (found.is, ← there.1) behind in
                  let below : is_above (entry_of ranks other) (entry_of ranks id) ≡ false = rw end at sooner in
                  inr (above_from_not_below (id, entry.0) (other, other_rank) (λ same. ne (sym same))
                  (above_along _ _ _ _ (entry_is ranks other other_rank other_in) (entry_is ranks id entry.0 entry.1) below))
            ];
      }

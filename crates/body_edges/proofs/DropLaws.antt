-- Dropping opposite keys in place: what is kept stands before what is still to come.
use Rattle.std.proofs.Common.{◌≡◌, ◌∙◌, ℕ, ◌+◌, ◌-◌, ◌/◌, ◌<◌, ◌≤◌, ◌⊎◌, inl, inr, true, false, List, [], ◌∷◌, ◌++◌, length, take, drop, get_or, set, length-set, refl, sym, ap, subst, append_assoc, arith}
use Rattle.std.specs.Prelude.{All}
use Rattle.std.specs.List.Sorted.{IsNonDecreasing}
use Rattle.std.proofs.Math.Nat.{eq-or-lt_of_le}
use Rattle.std.proofs.lemmas.Bool.Decides.{nat_tests}
use Rattle.std.proofs.lemmas.Grind.{get_or-set_at, get_or_default_zero}
use Rattle.std.proofs.lemmas.List.{get_or-set_other, get_or-take, take_more, take_more_set, drop-set-lt, drop_all, append-nil, length-take}
use Rattle.std.proofs.lemmas.List.Elements.{All-set, All-take, All-get_or}
use Rattle.body_edges.specs.Keys.{IsKey, are_opposite, HaveSameNet, NoOpposites}
use Rattle.body_edges.proofs.ListLaws.{drop_one}
use Rattle.body_edges.proofs.NetLaws.{same_net_itself, same_net_trans, same_net_dropped}

-- the keys ascend, those to come from the place on, and among the first, which are kept, none is the opposite of another
pub record AreClear (kept place : ℕ) (now : List ℕ) : Type 0 where
  pub rises : (i j : ℕ) → i ≤ j → j < kept → get_or now i 0 ≤ get_or now j 0
  pub below : (i j : ℕ) → i < kept → place ≤ j → j < length now → get_or now i 0 ≤ get_or now j 0
  pub to_come : (i j : ℕ) → place ≤ i → i ≤ j → j < length now → get_or now i 0 ≤ get_or now j 0
  pub one_way : (i j : ℕ) → i ≤ j → j < kept → get_or now i 0 / 2 ≡ get_or now j 0 / 2 → get_or now i 0 ≡ get_or now j 0

clear_none : (keys : List ℕ) → IsNonDecreasing keys → AreClear 0 0 keys
clear_none keys h = record {
  rises = λ i j le low. absurd (omega arith);
  below = λ i j low le within. absurd (omega arith);
  to_come = λ i j low le within. h i j 0 le within;
  one_way = λ i j le low e. absurd (omega arith);
}

-- the element at a place once the one behind those kept was set
set_before : (now : List ℕ) (kept key i : ℕ) → i < kept → get_or (set now kept key) i 0 ≡ get_or now i 0
set_before now kept key i low = get_or-set_other now kept i key 0 (λ e. omega arith)

set_behind : (now : List ℕ) (kept key i : ℕ) → kept < i → get_or (set now kept key) i 0 ≡ get_or now i 0
set_behind now kept key i low = get_or-set_other now kept i key 0 (λ e. omega arith)

-- the last two of ascending numbers have one half where the first and the last have
half_between : (first middle last : ℕ) → first ≤ middle → middle ≤ last → first / 2 ≡ last / 2 → middle / 2 ≡ last / 2
half_between first middle last h k e = omega arith

-- what stands at a place among those kept and the next
kept_at : (now : List ℕ) (kept key i : ℕ) → kept < length now → i < kept + 1 → ((i < kept) × (get_or (set now kept key) i 0 ≡ get_or now i 0)) ⊎ ((i ≡ kept) × (get_or (set now kept key) i 0 ≡ key))
kept_at now kept key i within low =
    elim (eq-or-lt_of_le {n = i} {m = kept} (omega arith)) as (λ _. ((i < kept) × (get_or (set now kept key) i 0 ≡ get_or now i 0)) ⊎ ((i ≡ kept) × (get_or (set now kept key) i 0 ≡ key))) [
      | inl e ↦ inr (e, get_or-set_at now kept i key 0 e within)
      | inr less ↦ inl (less, set_before now kept key i less)
    ]

-- numbers that ascend up to a key, the last of which has another half or is the key
joins : (first last key : ℕ) → first ≤ last → last ≤ key → (first / 2 ≡ last / 2 → first ≡ last) → are_opposite last key ≡ false → first / 2 ≡ key / 2 → first ≡ key
joins first last key h k same apart e =
    let half : last / 2 ≡ key / 2 = half_between first last key h k e in
    let end : last ≡ key = grind (arith, nat_tests) in
    same (e ∙ sym half) ∙ end

-- a key that is kept, and isn't the opposite of the last one that was
clear_kept : (kept place : ℕ) (now : List ℕ) (key : ℕ) → kept ≤ place → place < length now → key ≡ get_or now place 0 → (0 < kept → are_opposite (get_or now (kept - 1) 0) key ≡ false) → AreClear kept place now → AreClear (kept + 1) (place + 1) (set now kept key)
clear_kept kept place now key order low e apart h =
    let after : List ℕ = set now kept key in
    let as_many : length after ≡ length now = length-set now kept key in
    let at : (i : ℕ) → i < kept + 1 → ((i < kept) × (get_or after i 0 ≡ get_or now i 0)) ⊎ ((i ≡ kept) × (get_or after i 0 ≡ key)) =
    λ i less. kept_at now kept key i (omega arith) less in
    let under : (i : ℕ) → i < kept → get_or now i 0 ≤ key = λ i less. omega (arith, e, h.below i place less (omega arith) low) in
    let key_joins : (i : ℕ) → i < kept → get_or now i 0 / 2 ≡ key / 2 → get_or now i 0 ≡ key =
    λ i less half.
    joins (get_or now i 0) (get_or now (kept - 1) 0) key (h.rises i (kept - 1) (omega arith) (omega arith)) (under (kept - 1) (omega arith)) (h.one_way i (kept - 1) (omega arith) (omega arith)) (apart (omega arith)) half in
    record {
      rises = λ i j le less.
          elim (at j less) as (λ _. get_or after i 0 ≤ get_or after j 0) [
            | inl (before, there) ↦ omega (arith, there, set_before now kept key i (omega arith), h.rises i j le before)
            | inr (last, there) ↦
                elim (at i (omega arith)) as (λ _. get_or after i 0 ≤ get_or after j 0) [
                  | inl (before, here) ↦ omega (arith, here, there, under i before)
                  | inr (_, here) ↦ omega (arith, here, there)
                ]
          ];
      below = λ i j less past within.
          let there = set_behind now kept key j (omega arith) in
          elim (at i less) as (λ _. get_or after i 0 ≤ get_or after j 0) [
            | inl (before, here) ↦ omega (arith, here, there, h.below i j before (omega arith) (omega arith))
            | inr (_, here) ↦ omega (arith, here, there, e, h.to_come place j (omega arith) (omega arith) (omega arith))
          ];
      to_come = λ i j past le within.
          omega (arith, set_behind now kept key i (omega arith), set_behind now kept key j (omega arith), h.to_come i j (omega arith) le (omega arith));
      one_way = λ i j le less half.
          elim (at j less) as (λ _. get_or after i 0 ≡ get_or after j 0) [
            | inl (before, there) ↦
                let here = set_before now kept key i (omega arith) in
                here ∙ h.one_way i j le before (omega (arith, here, there, half)) ∙ sym there
            | inr (last, there) ↦
                elim (at i (omega arith)) as (λ _. get_or after i 0 ≡ get_or after j 0) [
                  | inl (before, here) ↦ here ∙ key_joins i before (omega (arith, here, there, half)) ∙ sym there
                  | inr (_, here) ↦ here ∙ sym there
                ]
          ];
    }

-- the last key that was kept goes
clear_both : (kept place : ℕ) (now : List ℕ) → AreClear kept place now → AreClear (kept - 1) (place + 1) now
clear_both kept place now h = record {
  rises = λ i j le less. h.rises i j le (omega arith);
  below = λ i j less past within. h.below i j (omega arith) (omega arith) within;
  to_come = λ i j past le within. h.to_come i j (omega arith) le within;
  one_way = λ i j le less half. h.one_way i j le (omega arith) half;
}

-- among the keys that are left at last
clear_all : (kept place : ℕ) (now : List ℕ) → kept ≤ length now → AreClear kept place now → NoOpposites (take kept now)
clear_all kept place now within h =
    λ i j le less half.
    let few : j < kept = omega (arith, length-take kept now) in
    let here : get_or (take kept now) i 0 ≡ get_or now i 0 = get_or-take kept now i 0 (omega arith) in
    let there : get_or (take kept now) j 0 ≡ get_or now j 0 = get_or-take kept now j 0 few in
    here ∙ h.one_way i j le few (ap (λ (n : ℕ). n / 2) (sym here) ∙ half ∙ ap (λ (n : ℕ). n / 2) there) ∙ sym there

-- the first of these keys are kept, those from the place on are still to come, and they have the net of the keys at first
pub record Drops (kept place : ℕ) (now before : List ℕ) : Type 0 where
  pub within : kept ≤ place
  pub as_many : length now ≡ length before
  pub net : HaveSameNet (take kept now ++ drop place now) before
  pub all : (points : ℕ) → All (IsKey points) before → All (IsKey points) now
  pub one_way : IsNonDecreasing before → AreClear kept place now

pub drops_none : (keys : List ℕ) → Drops 0 0 keys keys
drops_none keys = record { within = omega arith; as_many = refl; net = same_net_itself keys; all = λ points h. h; one_way = clear_none keys }

-- a key that is kept
pub drops_kept : (kept place : ℕ) (now before : List ℕ) (key : ℕ) → place < length now → key ≡ get_or now place key → (0 < kept → are_opposite (get_or now (kept - 1) 0) key ≡ false) → Drops kept place now before → Drops (kept + 1) (place + 1) (set now kept key) before
drops_kept kept place now before key low e apart h =
    let same : take (kept + 1) (set now kept key) ++ drop (place + 1) (set now kept key) ≡ take kept now ++ drop place now =
    ap (λ (front : List ℕ). front ++ drop (place + 1) (set now kept key)) (take_more_set now kept key (omega (arith, h.within)))
    ∙ ap (λ (back : List ℕ). (take kept now ++ key ∷ []) ++ back) (drop-set-lt (place + 1) now kept key (omega (arith, h.within)))
    ∙ append_assoc (take kept now) (key ∷ []) (drop (place + 1) now)
    ∙ ap (λ (k : ℕ). take kept now ++ k ∷ drop (place + 1) now) e
    ∙ ap (λ (back : List ℕ). take kept now ++ back) (sym (drop_one now place key low)) in
    record {
      within = omega (arith, h.within);
      as_many = length-set now kept key ∙ h.as_many;
      net = subst (λ (keys : List ℕ). HaveSameNet keys before) (sym same) h.net;
      all = λ points k. All-set (IsKey points) now kept key (subst (λ (x : ℕ). IsKey points x) (sym e) (All-get_or (IsKey points) now place key low (h.all points k))) (h.all points k);
      one_way = λ up. clear_kept kept place now key h.within low (e ∙ get_or_default_zero now place key low) apart (h.one_way up);
    }

-- a key that goes with the last one that was kept
pub drops_both : (kept place : ℕ) (now before : List ℕ) (key last : ℕ) → place < length now → 0 < kept → key ≡ get_or now place key → last ≡ get_or now (kept - 1) last → are_opposite last key ≡ true → Drops kept place now before → Drops (kept - 1) (place + 1) now before
drops_both kept place now before key last low some e d opposite h =
    let less : ℕ = kept - 1 in
    let more : kept ≡ less + 1 = omega arith in
    let front : take kept now ≡ take less now ++ last ∷ [] =
    ap (λ (n : ℕ). take n now) more ∙ take_more now less last (omega (arith, h.within)) ∙ ap (λ (k : ℕ). take less now ++ k ∷ []) (sym d) in
    let back : drop place now ≡ key ∷ drop (place + 1) now = drop_one now place key low ∙ ap (λ (k : ℕ). k ∷ drop (place + 1) now) (sym e) in
    let same : take kept now ++ drop place now ≡ (take less now ++ last ∷ []) ++ key ∷ drop (place + 1) now =
    ap (λ (keys : List ℕ). keys ++ drop place now) front ∙ ap (λ (keys : List ℕ). (take less now ++ last ∷ []) ++ keys) back in
    record {
      within = omega (arith, h.within);
      as_many = h.as_many;
      net = same_net_trans _ _ _ (same_net_dropped (take less now) (drop (place + 1) now) last key opposite) (subst (λ (keys : List ℕ). HaveSameNet keys before) same h.net);
      all = h.all;
      one_way = λ up. clear_both kept place now (h.one_way up);
    }

-- what is left once all keys were looked at
pub record IsLeft (now before : List ℕ) : Type 0 where
  pub net : HaveSameNet now before
  pub few : length now ≤ length before
  pub all : (points : ℕ) → All (IsKey points) before → All (IsKey points) now
  pub one_way : IsNonDecreasing before → NoOpposites now

pub drops_all : (kept place : ℕ) (now before : List ℕ) → kept ≤ length now → length now ≤ place → Drops kept place now before → IsLeft (take kept now) before
drops_all kept place now before within done h =
    let same : take kept now ++ drop place now ≡ take kept now ++ [] = ap (λ (keys : List ℕ). take kept now ++ keys) (drop_all place now done) in
    record {
      net = subst (λ (keys : List ℕ). HaveSameNet keys before) (same ∙ append-nil (take kept now)) h.net;
      few = omega (arith, length-take kept now, h.as_many);
      all = λ points k. All-take (IsKey points) kept now (h.all points k);
      one_way = λ up. clear_all kept place now within (h.one_way up);
    }

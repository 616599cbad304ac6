-- Words that share no bit have no patch in common.
use Rattle.std.proofs.Common.{◌≡◌, ◌≢◌, ℕ, ◌<◌, ◌≤◌, ◌*◌, ◌/◌, ◌%◌, ◌^◌, inl, inr, Bool, true, List, length, ap, subst, sym, ◌∙◌, arith}
use Rattle.std.specs.Prelude.{slice_index}
use Rattle.std.specs.Int.RustNames.{bit_and}
use Rattle.std.proofs.lemmas.Bool.{cases_lt, cases_eq}
use Rattle.std.proofs.lemmas.List.{get_or_past}
use Rattle.std.proofs.lemmas.Nat.{pow_pos, and_le_l, and_assoc}
use Rattle.tier_budget.specs.PatchSets.{HasPatch, HasAll}

-- 0 has no bit
none_of_zero : (w k : ℕ) → w ≡ 0 → bit_and w (2 ^ k) ≡ 2 ^ k → ⊥
none_of_zero w k is has = let most = and_le_l w (2 ^ k) in let some = pow_pos k in absurd (omega arith)

share_none : (a b k : ℕ) → bit_and a b ≡ 0 → bit_and a (2 ^ k) ≡ 2 ^ k → bit_and b (2 ^ k) ≡ 2 ^ k → ⊥
share_none a b k apart one other = none_of_zero (bit_and a b) k apart (and_assoc (2 ^ k) a b ∙ ap (bit_and a) other ∙ one)

past_none : (words : List ℕ) (p : ℕ) → length words ≤ p / 64 → HasPatch words p → ⊥
past_none words p past has = none_of_zero (slice_index words (p / 64)) (p % 64) (get_or_past words (p / 64) 0 past) has

pub apart_sets : (a b : List ℕ) (n : ℕ) → ((i : ℕ) → i < n → bit_and (slice_index a i) (slice_index b i) ≡ 0) → ((i : ℕ) → n ≤ i → i < length a → i < length b → ⊥) → (p : ℕ) → HasPatch a p → HasPatch b p → ⊥
apart_sets a b n apart all p one other = elim (cases_lt (p / 64) n) [
  | inl before ↦ share_none (slice_index a (p / 64)) (slice_index b (p / 64)) (p % 64) (apart (p / 64) before) one other
  | inr after ↦ elim (cases_lt (p / 64) (length a)) [
    | inr past ↦ past_none a p past one
    | inl within ↦ elim (cases_lt (p / 64) (length b)) [
      | inr past ↦ past_none b p past other
      | inl there ↦ all (p / 64) after within there
    ]
  ]
]

-- ---- a set goes along with what it stands for

pub room_for : (n m p : ℕ) → n ≤ 64 * m → p < n → p / 64 < m
room_for n m p room within = omega arith

-- one patch was set
pub all_set : (n : ℕ) (fits now : ℕ → Bool) (words new : List ℕ) (q : ℕ) → (now q ≡ true → HasPatch new q) → ((p : ℕ) → p ≢ q → HasPatch words p → HasPatch new p) → length new ≡ length words
    → ((p : ℕ) → p ≢ q → now p ≡ fits p) → HasAll n fits words → HasAll n now new
all_set n fits now words new q here others room same is = record {
  room = let was = is.room in omega arith;
  each = λ p fit. elim (cases_eq p q) [
    | inl at ↦ subst (HasPatch new) (sym at) (here (subst (λ (m : ℕ). now m ≡ true) at fit))
    | inr ne ↦ others p ne (is.each p (sym (same p ne) ∙ fit))
  ];
}

-- Laws of needs: a tier's load is a sum over its patches, and changes keep base patches where they are.
use Rattle.std.proofs.Common.{◌≡◌, ℕ, zero, suc, ◌+◌, ◌<◌, ◌≤◌, Bool, true, false, not, ◌&&◌, ◌||◌, cond, ltb, List, [], ◌∷◌, length, map, Option, None, is_some, refl, ap, subst, ◌∙◌, arith, inl, inr}
use Rattle.std.specs.Prelude.{slice_index, slice_index_or}
use Rattle.std.proofs.lemmas.Bool.{cases_eq, cond-true, cond-false}
use Rattle.file_model.specs.Lists.{SeenBody}
use Rattle.tier_model.specs.Places.{is_marked, marked_bytes, coming_bytes, load_of}
use Rattle.tier_model.specs.Tiers.{TierState, count, size, load}
use Rattle.settling_laws.specs.Stages.{sum_below}
use Rattle.detail_laws.specs.Needs.{is_needed, needed_bytes}

-- ---- sums

pub sum_grows : (n : ℕ) (f g : ℕ → ℕ) → ((q : ℕ) → q < n → f q ≤ g q) → sum_below n f ≤ sum_below n g
unfolding sum_below
sum_grows zero f g grows = omega arith
sum_grows (suc n) f g grows =
    let here = grows n (omega arith) in
    let rest = sum_grows n f g (λ q within. grows q (omega arith)) in
    omega arith

-- a sum grows by what one of its values grows by, at least
pub sum_grows_at : (n c more : ℕ) (f g : ℕ → ℕ) → c < n → ((q : ℕ) → q < n → f q ≤ g q) → f c + more ≤ g c → sum_below n f + more ≤ sum_below n g
unfolding sum_below
sum_grows_at zero c more f g within grows here = absurd (omega arith)
sum_grows_at (suc n) c more f g within grows here =
    elim (cases_eq c n) [
      | inl is ↦
          let rest = sum_grows n f g (λ q below. grows q (omega arith)) in
          let last = subst (λ (k : ℕ). f k + more ≤ g k) is here in
          omega arith
      | inr ne ↦
          let rest = sum_grows_at n c more f g (omega arith) (λ q below. grows q (omega arith)) here in
          let last = grows n (omega arith) in
          omega arith
    ]

pub sum_from_first : (n : ℕ) (f : ℕ → ℕ) → sum_below (suc n) f ≡ f 0 + sum_below n (λ p. f (suc p))
unfolding sum_below
sum_from_first zero f = refl
sum_from_first (suc n) f = let rest = sum_from_first n f in omega arith

-- how many bytes the marked patches have, as a sum over all patches
pub marked_is_sum : (sizes : List ℕ) (marks : List Bool) → marked_bytes sizes marks ≡ sum_below (length sizes) (λ p. cond (is_marked marks p) (slice_index sizes p) 0)
unfolding marked_bytes sum_below
marked_is_sum [] marks = refl
marked_is_sum (n ∷ ns) [] =
    let rest = marked_is_sum ns [] in
    let none = nothing_marked ns in
    let first = sum_from_first (length ns) (λ p. cond (is_marked [] p) (slice_index (n ∷ ns) p) 0) in
    omega arith
  where
    nothing_marked : (sizes : List ℕ) → marked_bytes sizes [] ≡ 0
    nothing_marked [] = refl
    nothing_marked (m ∷ ms) = refl
marked_is_sum (n ∷ ns) (m ∷ ms) =
    let rest = marked_is_sum ns ms in
    let first = sum_from_first (length ns) (λ p. cond (is_marked (m ∷ ms) p) (slice_index (n ∷ ns) p) 0) in
    omega arith

pub marks_of_held : (bodies : List (Option SeenBody)) (p : ℕ) → is_marked (map (λ o. is_some o) bodies) p ≡ is_some (slice_index_or bodies p None)
marks_of_held [] p = refl
marks_of_held (b ∷ bs) zero = refl
marks_of_held (b ∷ bs) (suc p) = marks_of_held bs p

-- where nothing comes, the load is what the held patches have
pub load_at_rest : (s : TierState) → s.coming ≡ [] → load s ≡ marked_bytes s.sizes (map (λ o. is_some o) s.held)
unfolding load_of coming_bytes
load_at_rest s none =
    let nothing : coming_bytes s.sizes s.coming ≡ 0 = ap (coming_bytes s.sizes) none in
    omega arith

-- marked patches that are needed, and another that is, together have no more bytes than all that are needed
pub room_beside : (s : TierState) (wish : ℕ → ℕ) (used : ℕ → Bool) (marks : List Bool) (p : ℕ) → p < count s → ((q : ℕ) → q < count s → is_marked marks q ≡ true → is_needed s wish used q ≡ true) → is_marked marks p ≡ false → is_needed s wish used p ≡ true → marked_bytes s.sizes marks + size s p ≤ needed_bytes s wish used
room_beside s wish used marks p within needed unmarked here =
    let sum = marked_is_sum s.sizes marks in
    let grows = sum_grows_at (count s) p (size s p) (λ q. cond (is_marked marks q) (size s q) 0) (λ q. cond (is_needed s wish used q) (size s q) 0) within
    (λ q below. no_more (is_marked marks q) (is_needed s wish used q) (size s q) (needed q below))
    (let none = cond-false (is_marked marks p) (size s p) 0 unmarked in let all = cond-true (is_needed s wish used p) (size s p) 0 here in omega arith) in
    omega arith
  where
    no_more : (b c : Bool) (n : ℕ) → (b ≡ true → c ≡ true) → cond b n 0 ≤ cond c n 0
    no_more false c n implied = omega arith
    no_more true c n implied = let all = cond-true c n 0 (implied refl) in omega arith

-- needs go by sizes, base patches, pins and wishes alone
pub needed_same : (s t : TierState) (wish other : ℕ → ℕ) (used : ℕ → Bool) → t.sizes ≡ s.sizes → t.base ≡ s.base → t.pinned ≡ s.pinned → ((p : ℕ) → p < count s → other p ≡ wish p) → needed_bytes t other used ≤ needed_bytes s wish used
needed_same s t wish other used sizes base pinned same =
    let bytes = λ (n : List ℕ) (b m : List Bool). sum_below (length n) (λ p. cond (is_marked m p || (not (is_marked b p) && (ltb 0 (other p) || used p))) (slice_index n p) 0) in
    let is : needed_bytes t other used ≡ needed_bytes s other used = ap (λ (n : List ℕ). bytes n t.base t.pinned) sizes ∙ ap (λ (b : List Bool). bytes s.sizes b t.pinned) base ∙ ap (λ (m : List Bool). bytes s.sizes s.base m) pinned in
    let grows = sum_grows (count s) (λ p. cond (is_needed s other used p) (size s p) 0) (λ p. cond (is_needed s wish used p) (size s p) 0)
    (λ p within. let value = ap (λ (n : ℕ). cond (is_marked s.pinned p || (not (is_marked s.base p) && (ltb 0 n || used p))) (size s p) 0) (same p within) in omega arith) in
    omega arith

-- What holds of each patch of the strip, by its four kinds.
use Rattle.std.proofs.Common.{◌≡◌, ℕ, zero, suc, ◌+◌, ◌-◌, ◌<◌, List, [], ◌∷◌, ◌++◌, map, subst, arith}
use Rattle.std.specs.List.{AllByRecursion, flat_map, range_with_len}
use Rattle.file_model.specs.declared.fields.PatchField.{PatchField}
use Rattle.strip_laws.specs.Strip.{StripPatch, square, left_half, right_half, halves, opened, strip_patches, fields_of}

-- ---- lists

pub each_append : {X : Type 0} (P : X → Type 0) (xs ys : List X) → AllByRecursion P xs → AllByRecursion P ys → AllByRecursion P (xs ++ ys)
each_append P [] ys h k = k
each_append P (x ∷ xs) ys h k = (h.0, each_append P xs ys h.1 k)

pub each_first : {X : Type 0} (P : X → Type 0) (xs ys : List X) → AllByRecursion P (xs ++ ys) → AllByRecursion P xs
each_first P [] ys h = tt
each_first P (x ∷ xs) ys h = (h.0, each_first P xs ys h.1)

pub each_second : {X : Type 0} (P : X → Type 0) (xs ys : List X) → AllByRecursion P (xs ++ ys) → AllByRecursion P ys
each_second P [] ys h = h
each_second P (x ∷ xs) ys h = each_second P xs ys h.1

pub each_map : {X Y : Type 0} (P : Y → Type 0) (f : X → Y) (xs : List X) → AllByRecursion (λ x. P (f x)) xs → AllByRecursion P (map f xs)
each_map P f [] h = tt
each_map P f (x ∷ xs) h = (h.0, each_map P f xs h.1)

pub each_unmapped : {X Y : Type 0} (P : Y → Type 0) (f : X → Y) (xs : List X) → AllByRecursion P (map f xs) → AllByRecursion (λ x. P (f x)) xs
each_unmapped P f [] h = tt
each_unmapped P f (x ∷ xs) h = (h.0, each_unmapped P f xs h.1)

-- what holds of n numbers from a on
pub each_in_range : (P : ℕ → Type 0) (n a : ℕ) → ((k : ℕ) → k < n → P (a + k)) → AllByRecursion P (range_with_len a n)
each_in_range P zero a h = tt
each_in_range P (suc n) a h =
    let first : a + 0 ≡ a = omega arith in
    (subst P first (h 0 (omega arith)), each_in_range P n (a + 1) (λ k less. let next : a + suc k ≡ a + 1 + k = omega arith in subst P next (h (suc k) (omega arith))))

pub each_of_range : (P : ℕ → Type 0) (n a : ℕ) → AllByRecursion P (range_with_len a n) → (k : ℕ) → k < n → P (a + k)
each_of_range P zero a h k less = absurd (omega arith)
each_of_range P (suc n) a h zero less = let first : a ≡ a + 0 = omega arith in subst P first h.0
each_of_range P (suc n) a h (suc k) less = let next : a + 1 + k ≡ a + suc k = omega arith in subst P next (each_of_range P n (a + 1) h.1 k (omega arith))

-- what holds of the numbers below n
pub each_below : (P : ℕ → Type 0) (n : ℕ) → ((k : ℕ) → k < n → P k) → AllByRecursion P (range_with_len 0 n)
each_below P n h = each_in_range P n 0 (λ k less. let same : k ≡ 0 + k = omega arith in subst P same (h k less))

pub each_under : (P : ℕ → Type 0) (n : ℕ) → AllByRecursion P (range_with_len 0 n) → (k : ℕ) → k < n → P k
each_under P n h k less = let same : 0 + k ≡ k = omega arith in subst P same (each_of_range P n 0 h k less)

-- ---- the four kinds

pub record EachKind (P : StripPatch → Type 0) (c : ℕ) : Type 0 where
  pub squares : (i : ℕ) → i < c → P (square i)
  pub lefts : (i : ℕ) → i < c → P (left_half c i)
  pub rights : (i : ℕ) → i < c → P (right_half c i)
  pub rounds : (j : ℕ) → j + 1 < c → P (opened c j)

each_half : (P : StripPatch → Type 0) (c : ℕ) (xs : List ℕ) → AllByRecursion (λ i. P (left_half c i) × P (right_half c i)) xs → AllByRecursion P (flat_map (halves c) xs)
each_half P c [] h = tt
each_half P c (x ∷ xs) h = (h.0.0, (h.0.1, each_half P c xs h.1))

of_halves : (P : StripPatch → Type 0) (c : ℕ) (xs : List ℕ) → AllByRecursion P (flat_map (halves c) xs) → AllByRecursion (λ i. P (left_half c i) × P (right_half c i)) xs
of_halves P c [] h = tt
of_halves P c (x ∷ xs) h = ((h.0, h.1.0), of_halves P c xs h.1.1)

pub each_patch : (P : StripPatch → Type 0) (c : ℕ) → EachKind P c → AllByRecursion P (strip_patches c)
unfolding strip_patches
each_patch P c kinds =
    each_append P (map square (range_with_len 0 c)) (flat_map (halves c) (range_with_len 0 c) ++ map (opened c) (range_with_len 0 (c - 1)))
    (each_map P square (range_with_len 0 c) (each_below (λ i. P (square i)) c kinds.squares))
    (each_append P (flat_map (halves c) (range_with_len 0 c)) (map (opened c) (range_with_len 0 (c - 1)))
    (each_half P c (range_with_len 0 c) (each_below (λ i. P (left_half c i) × P (right_half c i)) c (λ i less. (kinds.lefts i less, kinds.rights i less))))
    (each_map P (opened c) (range_with_len 0 (c - 1)) (each_below (λ j. P (opened c j)) (c - 1) (λ j less. kinds.rounds j (omega arith)))))

pub each_kind : (P : StripPatch → Type 0) (c : ℕ) → AllByRecursion P (strip_patches c) → EachKind P c
unfolding strip_patches
each_kind P c h =
    let rest = each_second P (map square (range_with_len 0 c)) (flat_map (halves c) (range_with_len 0 c) ++ map (opened c) (range_with_len 0 (c - 1))) h in
    let squares = each_unmapped P square (range_with_len 0 c) (each_first P (map square (range_with_len 0 c)) (flat_map (halves c) (range_with_len 0 c) ++ map (opened c) (range_with_len 0 (c - 1))) h) in
    let both = of_halves P c (range_with_len 0 c) (each_first P (flat_map (halves c) (range_with_len 0 c)) (map (opened c) (range_with_len 0 (c - 1))) rest) in
    let rounds = each_unmapped P (opened c) (range_with_len 0 (c - 1)) (each_second P (flat_map (halves c) (range_with_len 0 c)) (map (opened c) (range_with_len 0 (c - 1))) rest) in
    record {
      squares = each_under (λ i. P (square i)) c squares;
      lefts = λ i less. (each_under (λ i. P (left_half c i) × P (right_half c i)) c both i less).0;
      rights = λ i less. (each_under (λ i. P (left_half c i) × P (right_half c i)) c both i less).1;
      rounds = λ j less. each_under (λ j. P (opened c j)) (c - 1) rounds j (omega arith);
    }

-- ---- fields

pub each_field : (P : PatchField → Type 0) (c : ℕ) → EachKind (λ p. P p.field) c → AllByRecursion P (fields_of (strip_patches c))
each_field P c kinds = each_map P (λ (p : StripPatch). p.field) (strip_patches c) (each_patch (λ p. P p.field) c kinds)

pub kinds_of_fields : (P : PatchField → Type 0) (c : ℕ) → AllByRecursion P (fields_of (strip_patches c)) → EachKind (λ p. P p.field) c
kinds_of_fields P c h = each_kind (λ p. P p.field) c (each_unmapped P (λ (p : StripPatch). p.field) (strip_patches c) h)

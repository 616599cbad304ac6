-- The graph of the strip: its root, its sink, and how far each node is from the root at most.
use Rattle.std.proofs.Common.{◌≡◌, ℕ, zero, suc, ◌+◌, ◌-◌, ◌*◌, ◌<◌, ◌≤◌, Bool, true, false, cond, eqb, ltb, leb, List, [], ◌∷◌, refl, sym, ap, ◌∙◌, arith, inl, inr}
use Rattle.std.specs.List.{AllByRecursion, list_any}
use Rattle.std.proofs.lemmas.Bool.{cases_eq, cases_lt, eq-eqb, ne_eqb, eqb-false, lt-ltb, le-ltb, le-leb, lt-leb, or_from, not_from_false, not_from_true, true_from_ne_false, cond-true, cond-false}
use Rattle.file_model.specs.declared.fields.PatchField.{PatchField}
use Rattle.mesh_model.specs.Graph.{leads_to, leads_from, is_root, is_sink, roots, numbers_from}
use Rattle.mesh_model.specs.Walks.{IsBound, IsGrounded}
use Rattle.mesh_laws.specs.Each.{each_fails, each_at}
use Rattle.strip_laws.specs.Strip.{square_at, edge_at, strip_patches, fields_of}
use Rattle.strip_laws.specs.Kinds.{EachKind, each_field, kinds_of_fields}

-- ---- the nodes of edges

pub edge_is : (c k : ℕ) → 0 < k → edge_at c k ≡ c + k
edge_is c k some = cond-false (eqb k 0) (2 * c) (c + k) (ne_eqb k 0 (λ e. absurd (omega arith)))

pub edge_above : (c k : ℕ) → 0 < c → c < edge_at c k
edge_above c k some =
    elim (cases_eq k 0) [
      | inl same ↦ let is : edge_at c k ≡ 2 * c = cond-true (eqb k 0) (2 * c) (c + k) (eq-eqb k 0 same) in omega arith
      | inr apart ↦ let is : edge_at c k ≡ c + k = edge_is c k (omega arith) in omega arith
    ]

pub edge_within : (c k : ℕ) → k ≤ c → edge_at c k ≤ 2 * c
edge_within c k within =
    elim (cases_eq k 0) [
      | inl same ↦ let is : edge_at c k ≡ 2 * c = cond-true (eqb k 0) (2 * c) (c + k) (eq-eqb k 0 same) in omega arith
      | inr apart ↦ let is : edge_at c k ≡ c + k = edge_is c k (omega arith) in omega arith
    ]

-- an edge that isn't edge m has another node than an edge m between two squares
pub edge_apart : (c k m : ℕ) → m < c → (k ≡ m → ⊥) → edge_at c k ≡ c + m → ⊥
edge_apart c k m inner apart same =
    elim (cases_eq k 0) [
      | inl first ↦ let is : edge_at c k ≡ 2 * c = cond-true (eqb k 0) (2 * c) (c + k) (eq-eqb k 0 first) in omega arith
      | inr later ↦ let is : edge_at c k ≡ c + k = edge_is c k (omega arith) in apart (omega arith)
    ]

-- ---- root and sink

any_none : {X : Type 0} (test : X → Bool) (xs : List X) → AllByRecursion (λ x. test x ≡ false) xs → list_any test xs ≡ false
any_none test [] h = refl
any_none test (x ∷ xs) h = or_from (test x) (list_any test xs) h.0 (any_none test xs h.1)

pub first_is_root : (c : ℕ) → 0 < c → is_root (fields_of (strip_patches c)) 0 ≡ true
first_is_root c some =
    not_from_false (list_any (leads_to 0) (fields_of (strip_patches c)))
    (any_none (leads_to 0) (fields_of (strip_patches c)) (each_field (λ f. leads_to 0 f ≡ false) c (record {
      squares = λ i less. ne_eqb (square_at i) 0 (λ e. absurd (omega arith));
      lefts = λ i less. ne_eqb (edge_at c i) 0 (λ e. absurd (omega (arith, edge_above c i some)));
      rights = λ i less. ne_eqb (edge_at c (i + 1)) 0 (λ e. absurd (omega (arith, edge_above c (i + 1) some)));
      rounds = λ j less. ne_eqb (2 * c) 0 (λ e. absurd (omega arith));
    })))

pub last_is_sink : (c : ℕ) → 0 < c → is_sink (fields_of (strip_patches c)) (2 * c) ≡ true
last_is_sink c some =
    not_from_false (list_any (leads_from (2 * c)) (fields_of (strip_patches c)))
    (any_none (leads_from (2 * c)) (fields_of (strip_patches c)) (each_field (λ f. leads_from (2 * c) f ≡ false) c (record {
      squares = λ i less. ne_eqb 0 (2 * c) (λ e. absurd (omega arith));
      lefts = λ i less. ne_eqb (square_at i) (2 * c) (λ e. absurd (omega arith));
      rights = λ i less. ne_eqb (square_at i) (2 * c) (λ e. absurd (omega arith));
      rounds = λ j less. ne_eqb (c + (j + 1)) (2 * c) (λ e. absurd (omega arith));
    })))

-- a patch leads to each other node
led_to : (c v : ℕ) → 0 < v → v ≤ 2 * c → EachKind (λ p. leads_to v p.field ≡ false) c → ⊥
led_to c v some within none =
    elim (cases_lt c v) [
      | inr few ↦ eqb-false (square_at (v - 1)) v (none.squares (v - 1) (omega arith)) (omega arith)
      | inl above ↦ elim (cases_eq v (2 * c)) [
        | inl last ↦ eqb-false (2 * c) v (none.lefts 0 (omega arith)) (sym last)
        | inr inner ↦
            let is : edge_at c (v - c) ≡ c + (v - c) = edge_is c (v - c) (omega arith) in
            eqb-false (edge_at c (v - c)) v (none.lefts (v - c) (omega arith)) (omega arith)
      ]
    ]

pub others_no_root : (c v : ℕ) → 0 < v → v ≤ 2 * c → is_root (fields_of (strip_patches c)) v ≡ false
others_no_root c v some within =
    not_from_true (list_any (leads_to v) (fields_of (strip_patches c)))
    (true_from_ne_false (list_any (leads_to v) (fields_of (strip_patches c)))
    (λ none. led_to c v some within (kinds_of_fields (λ f. leads_to v f ≡ false) c (each_fails (leads_to v) (fields_of (strip_patches c)) none))))

none_listed : (test : ℕ → Bool) (n a : ℕ) → ((v : ℕ) → a ≤ v → v < a + n → test v ≡ false) → numbers_from a n test ≡ []
unfolding numbers_from
none_listed test zero a none = refl
none_listed test (suc n) a none =
    cond-false (test a) (a ∷ numbers_from (a + 1) n test) (numbers_from (a + 1) n test) (none a (omega arith) (omega arith))
    ∙ none_listed test n (a + 1) (λ v from below. none v (omega arith) (omega arith))

first_listed : (test : ℕ → Bool) (n a : ℕ) → test a ≡ true → ((v : ℕ) → a < v → v < a + suc n → test v ≡ false) → numbers_from a (suc n) test ≡ a ∷ []
unfolding numbers_from
first_listed test n a first none =
    cond-true (test a) (a ∷ numbers_from (a + 1) n test) (numbers_from (a + 1) n test) first
    ∙ ap (λ vs. a ∷ vs) (none_listed test n (a + 1) (λ v from below. none v (omega arith) (omega arith)))

only_root_listed : (nodes c : ℕ) → 0 < c → nodes ≡ suc (2 * c) → roots nodes (fields_of (strip_patches c)) ≡ 0 ∷ []
only_root_listed nodes c some many =
    ap (λ n. roots n (fields_of (strip_patches c))) many
    ∙ first_listed (is_root (fields_of (strip_patches c))) (2 * c) 0 (first_is_root c some) (λ v above below. others_no_root c v (omega arith) (omega arith))

pub one_root : (nodes c : ℕ) → 0 < c → nodes ≡ 2 * c + 1 → roots nodes (fields_of (strip_patches c)) ≡ 0 ∷ []
one_root nodes c some many = only_root_listed nodes c some (omega arith)

-- ---- walks

-- where the head of each patch stands higher than its tail, no walk is longer than its end is high
pub bounded_by : (height : ℕ → ℕ) (fields : List PatchField) → AllByRecursion (λ f. height f.tail < height f.head) fields → (v : ℕ) → IsBound fields v (height v)
bounded_by height fields rises v [] ends = omega arith
bounded_by height fields rises v (p ∷ ps) (f, here, at, ends) =
    let rise = each_at (λ f. height f.tail < height f.head) fields p f here rises in
    let rest = bounded_by height fields rises f.tail ps ends in
    let same : height f.head ≡ height v = ap height at in
    omega arith

-- the root is lowest, then the squares, the edges and the sink
unfoldable pub height : ℕ → ℕ → ℕ
height c v = cond (eqb v 0) 0 (cond (leb v c) 1 (cond (ltb v (2 * c)) 2 3))

pub height_first : (c : ℕ) → height c 0 ≡ 0
unfolding height
height_first c = refl

pub height_square : (c v : ℕ) → 0 < v → v ≤ c → height c v ≡ 1
unfolding height
height_square c v some few = let apart = ne_eqb v 0 (λ e. absurd (omega arith)) in let less = le-leb v c few in rw (apart, less) refl

pub height_above : (c v : ℕ) → c < v → 2 ≤ height c v
unfolding height
height_above c v above =
    let apart = ne_eqb v 0 (λ e. absurd (omega arith)) in
    let more = lt-leb v c (omega arith) in
    rw (apart, more) (elim (ltb v (2 * c)) as (λ t. 2 ≤ cond t 2 3) [ true ↦ omega arith | false ↦ omega arith ])

pub height_edge : (c v : ℕ) → c < v → v < 2 * c → height c v ≡ 2
unfolding height
height_edge c v above below =
    let apart = ne_eqb v 0 (λ e. absurd (omega arith)) in
    let more = lt-leb v c (omega arith) in
    let less = lt-ltb v (2 * c) below in
    rw (apart, more, less) refl

pub height_last : (c v : ℕ) → 0 < c → v ≡ 2 * c → height c v ≡ 3
unfolding height
height_last c v some last =
    let apart = ne_eqb v 0 (λ e. absurd (omega arith)) in
    let more = lt-leb v c (omega arith) in
    let past = le-ltb v (2 * c) (omega arith) in
    rw (apart, more, past) refl

pub rises : (c : ℕ) → 0 < c → AllByRecursion (λ f. height c f.tail < height c f.head) (fields_of (strip_patches c))
rises c some = each_field (λ f. height c f.tail < height c f.head) c (record {
  squares = λ i less. omega (arith, height_first c, height_square c (square_at i) (omega arith) (omega arith));
  lefts = λ i less. omega (arith, height_square c (square_at i) (omega arith) (omega arith), height_above c (edge_at c i) (edge_above c i some));
  rights = λ i less. omega (arith, height_square c (square_at i) (omega arith) (omega arith), height_above c (edge_at c (i + 1)) (edge_above c (i + 1) some));
  rounds = λ j less. omega (arith, height_edge c (c + (j + 1)) (omega arith) (omega arith), height_last c (2 * c) some refl);
})

pub all_grounded : (c : ℕ) → 0 < c → (v : ℕ) → IsGrounded (fields_of (strip_patches c)) v
all_grounded c some v = (height c v, bounded_by (height c) (fields_of (strip_patches c)) (rises c some) v)

-- The nodes of the strip by their numbers, and how the errors and balls of its arcs are nested.
use Rattle.std.proofs.Common.{◌≡◌, ℕ, zero, suc, ◌+◌, ◌-◌, ◌*◌, ◌%◌, ◌<◌, ◌≤◌, Bool, true, false, cond, eqb, leb, List, [], ◌∷◌, ◌++◌, length, map, Option, Some, None, refl, ap, ◌∙◌, arith, length-append, inl, inr}
use Rattle.std.specs.Prelude.{slice_get, ◌==◌, pos, ◌-ℤ◌, unsigned_abs}
use Rattle.std.specs.List.{range_with_len}
use Rattle.std.proofs.lemmas.Bool.{cases_eq, eq-eqb, le-leb, and_from, or_left, or_right, cond-true}
use Rattle.std.proofs.lemmas.Int.{ints}
use Rattle.std.proofs.lemmas.Nat.{mul-le}
use Rattle.std.proofs.lemmas.List.FromFn.{length-map-range_with_len}
use Rattle.grid_vertex.specs.Points.{gap, square as squared, distance_squared_of}
use Rattle.grid_vertex.specs.Balls.{is_ball_within}
use Rattle.file_model.specs.declared.fields.Node.{Node}
use Rattle.file_model.specs.declared.fields.PatchField.{PatchField}
use Rattle.mesh_model.specs.Graph.{is_sink}
use Rattle.mesh_model.specs.Accepted.{nested_by, is_nested, AllNested, has_no_more_error, has_ball_within}
use Rattle.mesh_laws.specs.Each.{each_at}
use Rattle.strip_laws.specs.Strip.{flat, node_at, root_node, square_node, edge_node, sink_node, strip_nodes, square_at, edge_at, strip_patches, fields_of, strip_file}
use Rattle.strip_laws.specs.Kinds.{each_field}
use Rattle.strip_laws.specs.StripGraph.{edge_is, last_is_sink}

-- ---- numbers

-- an item of a first part, and of a rest
item_first : {X : Type 0} (xs ys : List X) (k : ℕ) (x : X) → slice_get xs k ≡ Some x → slice_get (xs ++ ys) k ≡ Some x
item_first [] ys k x e = absurd cc
item_first (y ∷ xs) ys zero x e = e
item_first (y ∷ xs) ys (suc k) x e = item_first xs ys k x e

item_rest : {X : Type 0} (xs ys : List X) (n k m : ℕ) → length xs ≡ n → n + k ≡ m → slice_get (xs ++ ys) m ≡ slice_get ys k
item_rest [] ys n k m many at = let same : m ≡ k = omega arith in ap (λ j. slice_get ys j) same
item_rest (x ∷ xs) ys n k zero many at = absurd (omega arith)
item_rest (x ∷ xs) ys n k (suc m) many at = item_rest xs ys (length xs) k m refl (omega arith)

item_of_range : {X : Type 0} (f : ℕ → X) (n a i k : ℕ) → i < n → a + i ≡ k → slice_get (map f (range_with_len a n)) i ≡ Some (f k)
item_of_range f zero a i k less at = absurd (omega arith)
item_of_range f (suc n) a zero k less at = let same : a ≡ k = omega arith in ap (λ j. Some (f j)) same
item_of_range f (suc n) a (suc i) k less at = item_of_range f n (a + 1) i k (omega arith) (omega arith)

pub node_count : (c : ℕ) → 1 ≤ c → length (strip_nodes c) ≡ 2 * c + 1
unfolding strip_nodes
node_count c some =
    let squares = map square_node (range_with_len 0 c) in
    let edges = map edge_node (range_with_len 1 (c - 1)) in
    let whole : length (squares ++ (edges ++ sink_node ∷ [])) ≡ c + (c - 1 + 1) =
    length-append squares (edges ++ sink_node ∷ []) ∙ (λ t. length-map-range_with_len square_node 0 c t + (length-append edges (sink_node ∷ []) ∙ (λ s. length-map-range_with_len edge_node 1 (c - 1) s + 1)) t) in
    omega arith

pub node_of_square : (c i : ℕ) → i < c → slice_get (strip_nodes c) (square_at i) ≡ Some (square_node i)
unfolding strip_nodes
node_of_square c i less =
    item_rest (root_node c ∷ []) (map square_node (range_with_len 0 c) ++ (map edge_node (range_with_len 1 (c - 1)) ++ sink_node ∷ [])) 1 i (square_at i) refl refl
    ∙ item_first (map square_node (range_with_len 0 c)) (map edge_node (range_with_len 1 (c - 1)) ++ sink_node ∷ []) i (square_node i) (item_of_range square_node c 0 i i less (omega arith))

-- edge k, of those between two squares
pub node_of_edge : (c k : ℕ) → 0 < k → k < c → slice_get (strip_nodes c) (c + k) ≡ Some (edge_node k)
unfolding strip_nodes
node_of_edge c k some less =
    item_rest (root_node c ∷ map square_node (range_with_len 0 c)) (map edge_node (range_with_len 1 (c - 1)) ++ sink_node ∷ []) (suc c) (k - 1) (c + k) (ap suc (length-map-range_with_len square_node 0 c)) (omega arith)
    ∙ item_first (map edge_node (range_with_len 1 (c - 1))) (sink_node ∷ []) (k - 1) (edge_node k) (item_of_range edge_node (c - 1) 1 (k - 1) k (omega arith) (omega arith))

pub node_of_root : (c : ℕ) → slice_get (strip_nodes c) 0 ≡ Some (root_node c)
unfolding strip_nodes
node_of_root c = refl

-- ---- arcs

-- the test holds where an arc's nodes are known, or the head is a sink
nested_at : (test : Node → Node → Bool) (fields : List PatchField) (a b : Option Node) (tail head : Node) (v : ℕ) → a ≡ Some tail → b ≡ Some head → test tail head ≡ true → nested_by test fields a b v ≡ true
nested_at test fields a b tail head v x y passes =
    (λ t. nested_by test fields (x t) (y t) v) ∙ or_right (is_sink fields v) (test tail head) passes

nested_at_sink : (test : Node → Node → Bool) (fields : List PatchField) (a b : Option Node) (v : ℕ) → is_sink fields v ≡ true → nested_by test fields a b v ≡ true
nested_at_sink test fields (Some tail) (Some head) v sink = or_left (is_sink fields v) (test tail head) sink
nested_at_sink test fields (Some tail) None v sink = refl
nested_at_sink test fields None head v sink = refl

-- a test that holds along each kind of arc that leads to no sink
pub record Nests (test : Node → Node → Bool) (c : ℕ) : Type 0 where
  pub squares : (i : ℕ) → i < c → test (root_node c) (square_node i) ≡ true
  pub lefts : (i : ℕ) → 0 < i → i < c → test (square_node i) (edge_node i) ≡ true
  pub rights : (i : ℕ) → i + 1 < c → test (square_node i) (edge_node (i + 1)) ≡ true

-- a half of a square leads to the sink or to an edge between two squares
half_nested : (test : Node → Node → Bool) (c i k : ℕ) → i < c → k ≤ c → (0 < k → k < c → test (square_node i) (edge_node k) ≡ true)
    → nested_by test (fields_of (strip_patches c)) (slice_get (strip_nodes c) (square_at i)) (slice_get (strip_nodes c) (edge_at c k)) (edge_at c k) ≡ true
half_nested test c i k less within passes =
    let fields = fields_of (strip_patches c) in
    elim (cases_eq k 0) [
      | inl first ↦
          let at : edge_at c k ≡ 2 * c = cond-true (eqb k 0) (2 * c) (c + k) (eq-eqb k 0 first) in
          nested_at_sink test fields (slice_get (strip_nodes c) (square_at i)) (slice_get (strip_nodes c) (edge_at c k)) (edge_at c k) (ap (λ v. is_sink fields v) at ∙ last_is_sink c (omega arith))
      | inr later ↦ elim (cases_eq k c) [
        | inl last ↦
            let at : edge_at c k ≡ 2 * c = let is : edge_at c k ≡ c + k = edge_is c k (omega arith) in omega arith in
            nested_at_sink test fields (slice_get (strip_nodes c) (square_at i)) (slice_get (strip_nodes c) (edge_at c k)) (edge_at c k) (ap (λ v. is_sink fields v) at ∙ last_is_sink c (omega arith))
        | inr inner ↦
            let at : edge_at c k ≡ c + k = edge_is c k (omega arith) in
            nested_at test fields (slice_get (strip_nodes c) (square_at i)) (slice_get (strip_nodes c) (edge_at c k)) (square_node i) (edge_node k) (edge_at c k) (node_of_square c i less)
            (ap (λ v. slice_get (strip_nodes c) v) at ∙ node_of_edge c k (omega arith) (omega arith)) (passes (omega arith) (omega arith))
      ]
    ]

all_nested : (test : Node → Node → Bool) (version c : ℕ) → Nests test c → AllNested test (strip_file version c).index
all_nested test version c nests p f here =
    let index = (strip_file version c).index in
    each_at (λ f. is_nested test index f ≡ true) (fields_of (strip_patches c)) p f here (each_field (λ f. is_nested test index f ≡ true) c (record {
      squares = λ i less. nested_at test (fields_of (strip_patches c)) (slice_get (strip_nodes c) 0) (slice_get (strip_nodes c) (square_at i)) (root_node c) (square_node i) (square_at i) (node_of_root c) (node_of_square c i less) (nests.squares i less);
      lefts = λ i less. half_nested test c i i less (omega arith) (λ some inner. nests.lefts i some inner);
      rights = λ i less. half_nested test c i (i + 1) less (omega arith) (λ some inner. nests.rights i inner);
      rounds = λ j less. nested_at_sink test (fields_of (strip_patches c)) (slice_get (strip_nodes c) (c + (j + 1))) (slice_get (strip_nodes c) (2 * c)) (2 * c) (last_is_sink c (omega arith));
    }))

-- ---- errors

pub square_error : (i : ℕ) → ((square_node i).error ≤ 64) × (48 ≤ (square_node i).error)
square_error i = elim (i % 2 == 0) as (λ t. (cond t 64 48 ≤ 64) × (48 ≤ cond t 64 48)) [ true ↦ (omega arith, omega arith) | false ↦ (omega arith, omega arith) ]

pub errors_nested : (version c : ℕ) → AllNested has_no_more_error (strip_file version c).index
errors_nested version c = all_nested has_no_more_error version c (record {
  squares = λ i less. le-leb (square_node i).error 128 (omega (arith, (square_error i).0));
  lefts = λ i some less. le-leb 16 (square_node i).error (omega (arith, (square_error i).1));
  rights = λ i less. le-leb 16 (square_node i).error (omega (arith, (square_error i).1));
})

-- ---- balls

pub gap_within : (a b d : ℕ) → a ≤ b + d → b ≤ a + d → unsigned_abs (pos a -ℤ pos b) ≤ d
gap_within a b d h k = omega (arith, ints)

-- balls in the plane y = 2, whose centres are at most d apart
ball_within : (x x' r s d e e' : ℕ) → x ≤ x' + d → x' ≤ x + d → s + d ≤ r → has_ball_within (node_at (flat x 2) r e) (node_at (flat x' 2) s e') ≡ true
unfolding is_ball_within distance_squared_of
ball_within x x' r s d e e' left right room =
    let apart : gap (pos x) (pos x') ≤ d = gap_within x x' d left right in
    let near = mul-le (gap (pos x) (pos x')) (gap (pos x) (pos x')) d d apart apart in
    let slack = mul-le d d (r - s) (r - s) (omega arith) (omega arith) in
    and_from (leb s r) (leb (squared (gap (pos x) (pos x')) + 0 + 0) (squared (r - s))) (le-leb s r (omega arith)) (le-leb (squared (gap (pos x) (pos x')) + 0 + 0) (squared (r - s)) (omega arith))

pub balls_nested : (version c : ℕ) → AllNested has_ball_within (strip_file version c).index
balls_nested version c = all_nested has_ball_within version c (record {
  squares = λ i less. ball_within (2 * c) (4 * i + 2) (2 * c + 5) 7 (2 * c - 2) 128 (square_node i).error (omega arith) (omega arith) (omega arith);
  lefts = λ i some less. ball_within (4 * i + 2) (4 * i) 7 5 2 (square_node i).error 16 (omega arith) (omega arith) (omega arith);
  rights = λ i less. ball_within (4 * i + 2) (4 * (i + 1)) 7 5 2 (square_node i).error 16 (omega arith) (omega arith) (omega arith);
})

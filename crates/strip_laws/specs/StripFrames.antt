-- Two frames of the strip: the base, and that of all nodes but the sink.
use Rattle.std.proofs.Common.{◌≡◌, ℕ, zero, suc, ◌+◌, ◌-◌, ◌*◌, ◌<◌, ◌≤◌, Bool, true, false, not, cond, ltb, List, [], ◌∷◌, ◌++◌, length, map, refl, sym, ap, ◌∙◌, arith, append-nil, length-append, inl, inr}
use Rattle.std.specs.List.{AllByRecursion, list_any, flat_map, range_with_len}
use Rattle.std.proofs.lemmas.Bool.{cases_eq, cases_lt, ne_eqb, eqb-false, ltb-true, lt-ltb, le-ltb, and_from, and_right, not_from_true, not_from_false, true_from_ne_false}
use Rattle.std.proofs.lemmas.List.FromFn.{length-map-range_with_len}
use Rattle.grid_vertex.specs.declared.triangles.Triangle.{Triangle}
use Rattle.file_model.specs.declared.fields.PatchField.{PatchField}
use Rattle.file_model.specs.Lists.{triangles_from}
use Rattle.mesh_model.specs.Graph.{leads_from, is_sink, roots, patches_from}
use Rattle.mesh_model.specs.Frames.{triangles_where, leads_out, frame_patches, root_alone, IsCut}
use Rattle.mesh_model.specs.Accepted.{triangles_out_of}
use Rattle.mesh_laws.specs.Each.{each_fails, each_at}
use Rattle.mesh_laws.specs.Frames.{frame_of_set}
use Rattle.mesh_laws.specs.Bases.{base_patches, base_triangles}
use Rattle.strip_laws.specs.Strip.{StripPatch, square_at, edge_at, square, left_half, right_half, halves, opened, strip_nodes, strip_patches, fields_of, bodies_of, strip_file}
use Rattle.strip_laws.specs.Kinds.{EachKind, each_field, kinds_of_fields}
use Rattle.strip_laws.specs.Picks.{given, given_some, given_none, own, chosen_given, flat_nested, parts_by_kind, none_from, ends_from}
use Rattle.strip_laws.specs.StripGraph.{edge_is, one_root}
use Rattle.strip_laws.specs.StripNodes.{node_count}

-- ---- chosen patches

abbrev alone : StripPatch → List StripPatch
alone p = p ∷ []

-- the patches whose fields pass the test, in order
abbrev pub chosen : (PatchField → Bool) → List StripPatch → List StripPatch
chosen test ps = flat_map (given test alone) ps

given_alone : (t : Bool) (ts : List Triangle) (p : StripPatch) → own p ≡ ts → flat_map own (cond t (p ∷ []) []) ≡ cond t ts []
given_alone true ts p e = append-nil (own p) ∙ e
given_alone false ts p e = refl

each_given : (test : PatchField → Bool) (ps : List StripPatch) → flat_map (λ p. flat_map own (given test alone p)) ps ≡ flat_map (given test own) ps
each_given test [] = refl
each_given test (p ∷ ps) = λ t. given_alone (test p.field) (own p) p refl t ++ each_given test ps t

pub triangles_chosen : (test : PatchField → Bool) (ps : List StripPatch) → triangles_where test (fields_of ps) (bodies_of ps) ≡ flat_map own (chosen test ps)
triangles_chosen test ps = chosen_given test ps ∙ sym (flat_nested own (given test alone) ps ∙ each_given test ps)

one_counted : (t : Bool) (k : ℕ) (ks : List ℕ) (p : StripPatch) (ps : List StripPatch) → length ks ≡ length ps → length (cond t (k ∷ ks) ks) ≡ length (cond t (p ∷ []) [] ++ ps)
one_counted true k ks p ps e = ap suc e
one_counted false k ks p ps e = e

pub patches_chosen : (test : PatchField → Bool) (k : ℕ) (ps : List StripPatch) → length (patches_from k test (fields_of ps)) ≡ length (chosen test ps)
unfolding patches_from
patches_chosen test k [] = refl
patches_chosen test k (p ∷ ps) = one_counted (test p.field) k (patches_from (k + 1) test (fields_of ps)) p (chosen test ps) (patches_chosen test (k + 1) ps)

-- where each of a kind passes
all_from : (h : ℕ → List StripPatch) (f : ℕ → StripPatch) (n a : ℕ) → ((k : ℕ) → a ≤ k → k < a + n → h k ≡ f k ∷ []) → flat_map h (range_with_len a n) ≡ map f (range_with_len a n)
all_from h f zero a each = refl
all_from h f (suc n) a each = λ t. each a (omega arith) (omega arith) t ++ all_from h f n (a + 1) (λ k from below. each k (omega arith) (omega arith)) t

pub own_count : (f : ℕ → StripPatch) (m : ℕ) → ((i : ℕ) → length (own (f i)) ≡ m) → (n a : ℕ) → length (flat_map own (map f (range_with_len a n))) ≡ n * m
own_count f m each zero a = omega arith
own_count f m each (suc n) a =
    let first : length (own (f a)) ≡ m = each a in
    let rest : length (flat_map own (map f (range_with_len (a + 1) n))) ≡ n * m = own_count f m each n (a + 1) in
    length-append (own (f a)) (flat_map own (map f (range_with_len (a + 1) n))) ∙ omega arith

-- ---- the base

pub base_chosen : (c : ℕ) → chosen (leads_from 0) (strip_patches c) ≡ map square (range_with_len 0 c)
base_chosen c =
    parts_by_kind (given (leads_from 0) alone) c (map square (range_with_len 0 c)) [] []
    (all_from (λ i. given (leads_from 0) alone (square i)) square c 0 (λ k from below. refl))
    (none_from (λ k. flat_map (given (leads_from 0) alone) (halves c k)) c 0 (λ k from below.
    let apart = ne_eqb (square_at k) 0 (λ e. absurd (omega arith)) in
    λ t. given_none (leads_from 0) alone (left_half c k) apart t ++ (given_none (leads_from 0) alone (right_half c k) apart t ++ [])))
    (none_from (λ j. given (leads_from 0) alone (opened c j)) (c - 1) 0 (λ j from below. given_none (leads_from 0) alone (opened c j) (ne_eqb (c + (j + 1)) 0 (λ e. absurd (omega arith)))))
    ∙ append-nil (map square (range_with_len 0 c))

roots_of : (c : ℕ) → 1 ≤ c → roots (length (strip_nodes c)) (fields_of (strip_patches c)) ≡ 0 ∷ []
roots_of c some = one_root (length (strip_nodes c)) c some (node_count c some)

pub base_is : (version c : ℕ) → triangles_out_of (strip_file version c) 0 ≡ flat_map own (map square (range_with_len 0 c))
base_is version c = triangles_chosen (leads_from 0) (strip_patches c) ∙ ap (λ ps. flat_map own ps) (base_chosen c)

square_triangles : (i : ℕ) → length (own (square i)) ≡ 2
unfolding triangles_from
square_triangles i = refl

pub base_patch_count : (c : ℕ) → 1 ≤ c → length (frame_patches (root_alone 0) (fields_of (strip_patches c))) ≡ c
base_patch_count c some =
    ap length (base_patches (length (strip_nodes c)) (fields_of (strip_patches c)) 0 (roots_of c some))
    ∙ patches_chosen (leads_from 0) 0 (strip_patches c) ∙ ap length (base_chosen c) ∙ length-map-range_with_len square 0 c

pub base_triangle_count : (version c : ℕ) → 1 ≤ c → length (frame_of_set (strip_file version c) (root_alone 0)) ≡ 2 * c
base_triangle_count version c some =
    ap length (base_triangles (length (strip_nodes c)) (strip_file version c) 0 (roots_of c some) ∙ base_is version c) ∙ own_count square 2 square_triangles c 0 ∙ omega arith

-- ---- all nodes but the sink

-- the node isn't the sink
abbrev pub all_inner : ℕ → ℕ → Bool
all_inner c v = ltb v (2 * c)

-- a patch leads from each
led_from : (c v : ℕ) → 1 ≤ c → v < 2 * c → EachKind (λ p. leads_from v p.field ≡ false) c → ⊥
led_from c v some before none =
    elim (cases_eq v 0) [
      | inl first ↦ eqb-false 0 v (none.squares 0 (omega arith)) (sym first)
      | inr later ↦ elim (cases_lt c v) [
        | inr few ↦ eqb-false (square_at (v - 1)) v (none.lefts (v - 1) (omega arith)) (omega arith)
        | inl above ↦ eqb-false (c + (v - c - 1 + 1)) v (none.rounds (v - c - 1) (omega arith)) (omega arith)
      ]
    ]

inner_is_no_sink : (c v : ℕ) → 1 ≤ c → v < 2 * c → is_sink (fields_of (strip_patches c)) v ≡ false
inner_is_no_sink c v some before =
    not_from_true (list_any (leads_from v) (fields_of (strip_patches c)))
    (true_from_ne_false (list_any (leads_from v) (fields_of (strip_patches c)))
    (λ none. led_from c v some before (kinds_of_fields (λ f. leads_from v f ≡ false) c (each_fails (leads_from v) (fields_of (strip_patches c)) none))))

tails_inner : (c : ℕ) → AllByRecursion (λ f. f.tail < 2 * c) (fields_of (strip_patches c))
tails_inner c = each_field (λ f. f.tail < 2 * c) c (record { squares = λ i less. omega arith; lefts = λ i less. omega arith; rights = λ i less. omega arith; rounds = λ j less. omega arith })

pub inner_is_cut : (c : ℕ) → 1 ≤ c → IsCut (fields_of (strip_patches c)) 0 (all_inner c)
inner_is_cut c some = record {
  has_root = lt-ltb 0 (2 * c) (omega arith);
  no_sink = λ v at. inner_is_no_sink c v some (ltb-true v (2 * c) at);
  has_parents = λ p f here _. lt-ltb f.tail (2 * c) (each_at (λ f. f.tail < 2 * c) (fields_of (strip_patches c)) p f here (tails_inner c));
}

-- a patch to an inner node stays inside, and one from an inner node to the sink leads out
stays : (c : ℕ) (f : PatchField) → f.head < 2 * c → leads_out (all_inner c) f ≡ false
stays c f inside = and_right (ltb f.tail (2 * c)) (not (ltb f.head (2 * c))) (not_from_true (ltb f.head (2 * c)) (lt-ltb f.head (2 * c) inside))

leaves : (c : ℕ) (f : PatchField) → f.tail < 2 * c → f.head ≡ 2 * c → leads_out (all_inner c) f ≡ true
leaves c f inside out = and_from (ltb f.tail (2 * c)) (not (ltb f.head (2 * c))) (lt-ltb f.tail (2 * c) inside) (not_from_false (ltb f.head (2 * c)) (le-ltb f.head (2 * c) (omega arith)))

edge_inner : (c k : ℕ) → 0 < k → k < c → edge_at c k < 2 * c
edge_inner c k some less = let is : edge_at c k ≡ c + k = edge_is c k some in omega arith

edge_last : (c : ℕ) → 0 < c → edge_at c c ≡ 2 * c
edge_last c some = let is : edge_at c c ≡ c + c = edge_is c c some in omega arith

-- the left half of the first square, the right half of the last, and the opened edges
abbrev pub inner_patches : ℕ → List StripPatch
inner_patches c = left_half c 0 ∷ right_half c (c - 1) ∷ map (opened c) (range_with_len 0 (c - 1))

pub inner_chosen : (c : ℕ) → 2 ≤ c → chosen (leads_out (all_inner c)) (strip_patches c) ≡ inner_patches c
inner_chosen c some =
    let after : c - 1 + 1 ≡ c = omega arith in
    parts_by_kind (given (leads_out (all_inner c)) alone) c [] (left_half c 0 ∷ right_half c (c - 1) ∷ []) (map (opened c) (range_with_len 0 (c - 1)))
    (none_from (λ k. given (leads_out (all_inner c)) alone (square k)) c 0 (λ k from below. given_none (leads_out (all_inner c)) alone (square k) (stays c (square k).field (omega arith))))
    (ends_from (λ k. flat_map (given (leads_out (all_inner c)) alone) (halves c k)) c 0 (c - 1) (omega arith) (omega arith)
    (λ k from below apart apart' t. given_none (leads_out (all_inner c)) alone (left_half c k) (stays c (left_half c k).field (edge_inner c k (omega arith) (omega arith))) t
    ++ (given_none (leads_out (all_inner c)) alone (right_half c k) (stays c (right_half c k).field (edge_inner c (k + 1) (omega arith) (omega arith))) t ++ []))
    ∙ (λ t. (given_some (leads_out (all_inner c)) alone (left_half c 0) (leaves c (left_half c 0).field (omega arith) refl) t
    ++ (given_none (leads_out (all_inner c)) alone (right_half c 0) (stays c (right_half c 0).field (edge_inner c (0 + 1) (omega arith) (omega arith))) t ++ []))
    ++ (given_none (leads_out (all_inner c)) alone (left_half c (c - 1)) (stays c (left_half c (c - 1)).field (edge_inner c (c - 1) (omega arith) (omega arith))) t
    ++ (given_some (leads_out (all_inner c)) alone (right_half c (c - 1)) (leaves c (right_half c (c - 1)).field (omega arith) (ap (λ k. edge_at c k) after ∙ edge_last c (omega arith))) t ++ []))))
    (all_from (λ j. given (leads_out (all_inner c)) alone (opened c j)) (opened c) (c - 1) 0 (λ j from below. given_some (leads_out (all_inner c)) alone (opened c j) (leaves c (opened c j).field (omega arith) refl)))

pub inner_patch_count : (c : ℕ) → 2 ≤ c → length (frame_patches (all_inner c) (fields_of (strip_patches c))) ≡ c + 1
inner_patch_count c some =
    let rounds : length (map (opened c) (range_with_len 0 (c - 1))) ≡ c - 1 = length-map-range_with_len (opened c) 0 (c - 1) in
    patches_chosen (leads_out (all_inner c)) 0 (strip_patches c) ∙ ap length (inner_chosen c some) ∙ omega arith

round_triangles : (c j : ℕ) → length (own (opened c j)) ≡ 6
unfolding triangles_from
round_triangles c j = refl

ends_triangles : (c i k : ℕ) (ts : List Triangle) → length (own (left_half c i) ++ (own (right_half c k) ++ ts)) ≡ 4 + length ts
unfolding triangles_from
ends_triangles c i k ts = omega arith

pub inner_triangle_count : (version c : ℕ) → 2 ≤ c → length (frame_of_set (strip_file version c) (all_inner c)) + 2 ≡ 6 * c
inner_triangle_count version c some =
    let rounds : length (flat_map own (map (opened c) (range_with_len 0 (c - 1)))) ≡ (c - 1) * 6 = own_count (opened c) 6 (round_triangles c) (c - 1) 0 in
    let all : length (frame_of_set (strip_file version c) (all_inner c)) ≡ 4 + length (flat_map own (map (opened c) (range_with_len 0 (c - 1)))) =
    ap length (triangles_chosen (leads_out (all_inner c)) (strip_patches c) ∙ ap (λ ps. flat_map own ps) (inner_chosen c some))
    ∙ ends_triangles c 0 (c - 1) (flat_map own (map (opened c) (range_with_len 0 (c - 1)))) in
    omega arith

-- The strip is a patch file in either version, and its mesh is accepted.
use Rattle.std.proofs.Common.{◌≡◌, ℕ, ◌+◌, ◌-◌, ◌*◌, ◌<◌, ◌≤◌, Bool, true, not, ◌&&◌, ◌||◌, ltb, leb, List, [], ◌∷◌, ◌++◌, length, map, refl, ap, subst, ◌∙◌, arith, inl, inr}
use Rattle.std.specs.List.{AllByRecursion, range_with_len}
use Rattle.std.proofs.lemmas.Bool.{cases_eq, cases_lt, lt-ltb, le-leb, and_from, or_left, or_right, not_from_true}
use Rattle.grid_vertex.specs.Points.{is_in_grid}
use Rattle.file_model.specs.declared.fields.PatchField.{PatchField}
use Rattle.file_model.specs.Spelling.{file_text}
use Rattle.file_model.specs.Reading.{file_size}
use Rattle.file_laws.specs.Files.{length-file_text}
use Rattle.file_model.specs.Rules.{is_version, is_node, has_ends, has_counts, is_field, fits_field, is_body, are_bodies, IsIndex, IsPatchFile}
use Rattle.mesh_model.specs.Graph.{is_root, is_sink}
use Rattle.mesh_model.specs.Accepted.{KeepsNets, IsAccepted}
use Rattle.strip_laws.specs.Strip.{StripPatch, flat, node_at, square_node, edge_node, sink_node, strip_nodes, square_at, edge_at, strip_patches, fields_of, bodies_of, strip_file}
use Rattle.strip_laws.specs.Kinds.{each_append, each_map, each_in_range, each_below, each_patch, each_field}
use Rattle.strip_laws.specs.StripCounts.{patch_count, field_count, bodies_size_1, bodies_size_2}
use Rattle.strip_laws.specs.StripGraph.{edge_within, first_is_root, last_is_sink, one_root, all_grounded}
use Rattle.strip_laws.specs.NodeNets.{square_keeps, edge_keeps}
use Rattle.strip_laws.specs.StripNodes.{node_count, square_error, errors_nested, balls_nested}
use Rattle.strip_laws.specs.StripBodies.{all_pass, square_is_body, left_is_body, right_is_body, round_is_body}

-- ---- nodes and fields

node_by : (x y r e : ℕ) → x ≤ 1048576 → y ≤ 1048576 → r ≤ 4194304 → e ≤ 1048576 → is_node (node_at (flat x y) r e) ≡ true
node_by x y r e x_in y_in r_in e_in =
    and_from (is_in_grid (flat x y) && leb r 4194304) (leb e 1048576)
    (and_from (is_in_grid (flat x y)) (leb r 4194304)
    (and_from (leb x 1048576 && leb y 1048576) (leb 0 1048576) (and_from (leb x 1048576) (leb y 1048576) (le-leb x 1048576 x_in) (le-leb y 1048576 y_in)) refl)
    (le-leb r 4194304 r_in))
    (le-leb e 1048576 e_in)

each_node : (c : ℕ) → 1 ≤ c → c ≤ 16384 → AllByRecursion (λ n. is_node n ≡ true) (strip_nodes c)
unfolding strip_nodes
each_node c some few = (
  node_by (2 * c) 2 (2 * c + 5) 128 (omega arith) (omega arith) (omega arith) (omega arith),
  each_append (λ n. is_node n ≡ true) (map square_node (range_with_len 0 c)) (map edge_node (range_with_len 1 (c - 1)) ++ sink_node ∷ [])
      (each_map (λ n. is_node n ≡ true) square_node (range_with_len 0 c) (each_below (λ i. is_node (square_node i) ≡ true) c (λ i less.
      node_by (4 * i + 2) 2 7 (square_node i).error (omega arith) (omega arith) (omega arith) (omega (arith, (square_error i).0)))))
      (each_append (λ n. is_node n ≡ true) (map edge_node (range_with_len 1 (c - 1))) (sink_node ∷ [])
      (each_map (λ n. is_node n ≡ true) edge_node (range_with_len 1 (c - 1)) (each_in_range (λ k. is_node (edge_node k) ≡ true) (c - 1) 1 (λ k less.
      node_by (4 * (1 + k)) 2 5 16 (omega arith) (omega arith) (omega arith) (omega arith))))
      (refl, tt)),
)

field_by : (nodes tail head points triangles : ℕ) → tail < nodes → head < nodes → has_counts (record { tail = tail; head = head; points = points; triangles = triangles }) ≡ true
    → is_field nodes (record { tail = tail; head = head; points = points; triangles = triangles }) ≡ true
field_by nodes tail head points triangles from to counts =
    let f : PatchField = record { tail = tail; head = head; points = points; triangles = triangles } in
    and_from (has_ends nodes f) (has_counts f) (and_from (ltb tail nodes) (ltb head nodes) (lt-ltb tail nodes from) (lt-ltb head nodes to)) counts

fields_good : (nodes c : ℕ) → 1 ≤ c → nodes ≡ 2 * c + 1 → AllByRecursion (λ f. is_field nodes f ≡ true) (fields_of (strip_patches c))
fields_good nodes c some many = each_field (λ f. is_field nodes f ≡ true) c (record {
  squares = λ i less. field_by nodes 0 (square_at i) 4 2 (omega arith) (omega arith) refl;
  lefts = λ i less. field_by nodes (square_at i) (edge_at c i) 4 2 (omega arith) (omega (arith, edge_within c i (omega arith))) refl;
  rights = λ i less. field_by nodes (square_at i) (edge_at c (i + 1)) 4 2 (omega arith) (omega (arith, edge_within c (i + 1) (omega arith))) refl;
  rounds = λ j less. field_by nodes (c + (j + 1)) (2 * c) 7 6 (omega arith) (omega arith) refl;
})

between : (low high n : ℕ) → low ≤ n → n ≤ high → (leb low n && leb n high) ≡ true
between low high n above below = and_from (leb low n) (leb n high) (le-leb low n above) (le-leb n high below)

pub strip_index : (version c : ℕ) → is_version version ≡ true → 2 ≤ c → c ≤ 16384 → IsIndex (strip_file version c).index
strip_index version c known some few =
    let nodes : length (strip_nodes c) ≡ 2 * c + 1 = node_count c (omega arith) in
    let patches : length (fields_of (strip_patches c)) ≡ length (strip_patches c) = field_count c in
    let fourth : length (strip_patches c) + 1 ≡ 4 * c = patch_count c (omega arith) in
    record {
      version = known;
      node_count = between 2 65536 (length (strip_nodes c)) (omega arith) (omega arith);
      patch_count = between 1 65536 (length (fields_of (strip_patches c))) (omega arith) (omega arith);
      nodes = all_pass is_node (strip_nodes c) (each_node c (omega arith) few);
      fields = all_pass (is_field (length (strip_nodes c))) (fields_of (strip_patches c)) (fields_good (length (strip_nodes c)) c (omega arith) nodes);
    }

-- ---- bodies

-- the body of a patch is of its field, and follows the rules
abbrev is_good : ℕ → StripPatch → Bool
is_good version p = fits_field p.field p.body && is_body version p.body

bodies_good : (version : ℕ) (ps : List StripPatch) → AllByRecursion (λ p. is_good version p ≡ true) ps → are_bodies version (fields_of ps) (bodies_of ps) ≡ true
unfolding are_bodies
bodies_good version [] h = refl
bodies_good version (p ∷ ps) h = and_from (is_good version p) (are_bodies version (fields_of ps) (bodies_of ps)) h.0 (bodies_good version ps h.1)

strip_bodies : (version c : ℕ) → c ≤ 16384 → are_bodies version (fields_of (strip_patches c)) (bodies_of (strip_patches c)) ≡ true
strip_bodies version c few = bodies_good version (strip_patches c) (each_patch (λ p. is_good version p ≡ true) c (record {
  squares = λ i less. square_is_body version i (omega arith);
  lefts = λ i less. left_is_body version i (omega arith);
  rights = λ i less. right_is_body version i (omega arith);
  rounds = λ j less. round_is_body version j (j + 1) refl (omega arith);
}))

pub strip_is_file : (version c : ℕ) → is_version version ≡ true → 2 ≤ c → c ≤ 16384 → IsPatchFile (strip_file version c) (file_text (strip_file version c))
strip_is_file version c known some few = record { index = strip_index version c known some few; bodies = strip_bodies version c few; text = refl }

-- ---- acceptance

not_inner : (r s : Bool) → (r || s) ≡ true → not (r || s) ≡ true → ⊥
not_inner r s h k = let never = not_from_true (r || s) h in absurd cc

keeps : (version c v : ℕ) → 1 ≤ c → v ≤ 2 * c → KeepsNets (strip_file version c) v
keeps version c v some within inner =
    let fields = fields_of (strip_patches c) in
    elim (cases_eq v 0) [
      | inl first ↦ absurd (not_inner (is_root fields v) (is_sink fields v) (or_left (is_root fields v) (is_sink fields v) (ap (λ u. is_root fields u) first ∙ first_is_root c some)) inner)
      | inr later ↦ elim (cases_eq v (2 * c)) [
        | inl last ↦ absurd (not_inner (is_root fields v) (is_sink fields v) (or_right (is_root fields v) (is_sink fields v) (ap (λ u. is_sink fields u) last ∙ last_is_sink c some)) inner)
        | inr before ↦ elim (cases_lt c v) [
          | inr few ↦
              let at : square_at (v - 1) ≡ v = omega arith in
              subst (λ (u : ℕ). KeepsNets (strip_file version c) u) at (λ _. square_keeps version c (v - 1) (omega arith)) inner
          | inl above ↦
              let at : c + (v - c - 1 + 1) ≡ v = omega arith in
              subst (λ (u : ℕ). KeepsNets (strip_file version c) u) at (λ _. edge_keeps version c (v - c - 1) (omega arith)) inner
        ]
      ]
    ]

pub strip_is_accepted : (version c : ℕ) → 1 ≤ c → IsAccepted (strip_file version c) 0
strip_is_accepted version c some =
    let nodes : length (strip_nodes c) ≡ 2 * c + 1 = node_count c some in
    record {
      graph = record {
        one_root = one_root (length (strip_nodes c)) c some nodes;
        grounded = λ v node. all_grounded c some v;
        errors = errors_nested version c;
        balls = balls_nested version c;
      };
      nets = λ v node. keeps version c v some (omega arith);
    }

-- ---- lengths

file_length : (version c : ℕ) → 2 ≤ c → c ≤ 16384 → length (file_text (strip_file version c)) ≡ file_size (strip_file version c).index
file_length version c some few = length-file_text (strip_file version c) (strip_bodies version c few)

pub file_length_1 : (c : ℕ) → 2 ≤ c → c ≤ 16384 → length (file_text (strip_file 1 c)) + 96 ≡ 388 * c
file_length_1 c some few =
    let nodes = node_count c (omega arith) in
    let patches = field_count c in
    let fourth = patch_count c (omega arith) in
    let bodies = bodies_size_1 c (omega arith) in
    let size = file_length 1 c some few in
    omega arith

pub file_length_2 : (c : ℕ) → 2 ≤ c → c ≤ 16384 → length (file_text (strip_file 2 c)) + 66 ≡ 322 * c
file_length_2 c some few =
    let nodes = node_count c (omega arith) in
    let patches = field_count c in
    let fourth = patch_count c (omega arith) in
    let bodies = bodies_size_2 c (omega arith) in
    let size = file_length 2 c some few in
    omega arith

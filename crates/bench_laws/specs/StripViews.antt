-- From the middle of the strip a view with the greatest focal number wants every node but the sink.
use Rattle.std.proofs.Common.{◌≡◌, ℕ, ◌+◌, ◌-◌, ◌*◌, ◌/◌, ◌<◌, ◌≤◌, Bool, true, false, not, ◌||◌, cond, List, [], ◌∷◌, map, Some, refl, sym, ap, ◌∙◌, arith, inl, inr}
use Rattle.std.specs.Prelude.{slice_get, slice_index, max, pos}
use Rattle.std.specs.Option.{option_map}
use Rattle.std.proofs.lemmas.Bool.{cases_eq, cases_lt, lt-ltb, not_from_false, or_from, or_right, not-true}
use Rattle.std.proofs.lemmas.Option.{slice_get-map, get_or_from_slice_get}
use Rattle.std.proofs.lemmas.List.Sums.{sum_by-cons}
use Rattle.std.proofs.lemmas.Nat.{le-div}
use Rattle.grid_vertex.specs.Points.{gap, distance_squared_of}
use Rattle.grid_vertex.specs.Roots.{root_up_to, root_of}
use Rattle.file_model.specs.declared.fields.Node.{Node}
use Rattle.file_model.specs.declared.fields.PatchField.{PatchField}
use Rattle.mesh_model.specs.Graph.{is_root, is_sink}
use Rattle.mesh_model.specs.Frames.{triangles_in_all, leads_out}
use Rattle.mesh_model.specs.Meshes.{MeshLists}
use Rattle.mesh_laws.specs.Each.{each_at}
use Rattle.round_model.specs.Scores.{distance_of, score_of}
use Rattle.round_model.specs.Order.{Rules}
use Rattle.round_model.specs.Rounds.{has, frame_size, is_wanted, root_set}
use Rattle.round_model.specs.Views.{rules_of, view_rules}
use Rattle.round_laws.specs.Ascending.{IsInnerNode}
use Rattle.round_laws.specs.Cuts.{IsRootOrWanted}
use Rattle.round_laws.specs.Roots.{root_within}
use Rattle.strip_laws.specs.Strip.{flat, node_at, square_node, edge_node, strip_nodes, strip_patches, fields_of, square_at}
use Rattle.strip_laws.specs.Kinds.{each_field}
use Rattle.strip_laws.specs.StripCounts.{triangle_count}
use Rattle.strip_laws.specs.StripFrames.{inner_is_cut}
use Rattle.strip_laws.specs.StripGraph.{first_is_root, last_is_sink, others_no_root}
use Rattle.strip_laws.specs.StripNodes.{node_count, node_of_square, node_of_edge, square_error, gap_within}
use Rattle.tier_model.specs.Places.{is_marked}
use Rattle.tier_model.specs.Tiers.{base_marks}
use Rattle.round_laws.specs.Wanted.{with_members, FitsWanted, IsOfWanted}
use Rattle.detail_laws.specs.Reached.{mark_at}
use Rattle.bench_laws.specs.BenchRuns.{bench_file, bench_view}

-- ---- scores

root_of_zero : root_of 0 ≡ 0
unfolding root_of root_up_to
root_of_zero = refl

root_of_square : (g : ℕ) → root_of (g * g + 0 + 0) ≤ g
root_of_square g =
    let near : root_of (g * g + 0 + 0) ≤ root_of 0 + g = root_within g 0 0 0 0 0 g 0 0 g (omega arith) (omega arith) (omega arith) (omega arith) in
    let zero_root = root_of_zero in
    omega arith

no_farther : (r radius d : ℕ) → r ≤ d → 1 ≤ d → max 1 (r - radius) ≤ d
no_farther r radius d near some = grind arith

-- a node of the strip's line is at most 2c from the middle
near_enough : (c x radius : ℕ) → 1 ≤ c → x ≤ 4 * c → distance_of (flat (2 * c) 2) (node_at (flat x 2) radius 0).ball ≤ 2 * c
unfolding distance_of distance_squared_of
near_enough c x radius some within =
    let g = gap (pos (2 * c)) (pos x) in
    let near : g ≤ 2 * c = gap_within (2 * c) x (2 * c) (omega arith) (omega arith) in
    let root = root_of_square g in
    no_farther (root_of (g * g + 0 + 0)) radius (2 * c) (omega arith) (omega arith)

some_distance : (r radius : ℕ) → 0 < max 1 (r - radius)
some_distance r radius = grind arith

two_at_least : (error d : ℕ) → 0 < d → 16 ≤ error → d ≤ 32768 → 1 < (error * 65536) / d
two_at_least error d some large near =
    let two = le-div 2 (error * 65536) d some (omega arith) in
    omega arith

scores_high : (c x radius error : ℕ) → 1 ≤ c → c ≤ 16384 → x ≤ 4 * c → 16 ≤ error → 1 < score_of (flat (2 * c) 2) 65536 (node_at (flat x 2) radius error)
unfolding score_of distance_of
scores_high c x radius error some few within large =
    let near = near_enough c x radius some within in
    two_at_least error (distance_of (flat (2 * c) 2) (node_at (flat x 2) radius error).ball)
    (some_distance (root_of (distance_squared_of (flat (2 * c) 2) (flat x 2))) radius) large (omega arith)

-- ---- nodes

-- the node is neither the root nor the sink, and its error is at least 16
score_at : (c v : ℕ) → 1 ≤ c → c ≤ 16384 → 0 < v → v < 2 * c → (n : Node) × (slice_get (strip_nodes c) v ≡ Some n) × (1 < score_of (flat (2 * c) 2) 65536 n)
score_at c v some few above below =
    elim (cases_lt c v) [
      | inr low ↦
          let at : square_at (v - 1) ≡ v = omega arith in (
            square_node (v - 1),
            ap (λ (u : ℕ). slice_get (strip_nodes c) u) (sym at) ∙ node_of_square c (v - 1) (omega arith),
            scores_high c (4 * (v - 1) + 2) 7 (square_node (v - 1)).error some few (omega arith) (let error = (square_error (v - 1)).1 in omega arith),
          )
      | inl high ↦
          let at : c + (v - c) ≡ v = omega arith in (
            edge_node (v - c),
            ap (λ (u : ℕ). slice_get (strip_nodes c) u) (sym at) ∙ node_of_edge c (v - c) (omega arith) (omega arith),
            scores_high c (4 * (v - c)) 5 16 some few (omega arith) (omega arith),
          )
    ]

index_at : (g : Node → ℕ) (nodes : List Node) (v : ℕ) (n : Node) → slice_get nodes v ≡ Some n → slice_index (map g nodes) v ≡ g n
index_at g nodes v n at = get_or_from_slice_get (map g nodes) v (g n) 0 (slice_get-map g nodes v ∙ ap (option_map g) at)

-- ---- the mesh of the strip

abbrev pub strip_mesh : ℕ → List ℕ → MeshLists
strip_mesh c levels = record { index = (bench_file c).index; root = 0; levels = levels }

abbrev pub bench_rules : ℕ → List ℕ → Rules
bench_rules c levels = view_rules (bench_view c) (strip_mesh c levels)

module _ (c : ℕ) (some : 2 ≤ c) (few : c ≤ 16384) (levels : List ℕ) where
  inner_wanted : (v : ℕ) → 0 < v → v < 2 * c → is_wanted (bench_rules c levels) v ≡ true
  unfolding rules_of
  inner_wanted v above below =
      let node = score_at c v (omega arith) few above below in
      let is = index_at (score_of (flat (2 * c) 2) 65536) (strip_nodes c) v node.0 node.1 in
      let high = node.2 in
      lt-ltb 1 (slice_index (map (score_of (flat (2 * c) 2) 65536) (strip_nodes c)) v) (omega arith)

  is_inner_node : (v : ℕ) → 0 < v → v < 2 * c → IsInnerNode (bench_rules c levels) v
  unfolding rules_of
  is_inner_node v above below =
      let fields = fields_of (strip_patches c) in
      let nodes = node_count c (omega arith) in
      record {
        node = omega arith;
        inner = not_from_false (is_root fields v || is_sink fields v)
            (or_from (is_root fields v) (is_sink fields v) (others_no_root c v above (omega arith))
            ((inner_is_cut c (omega arith)).no_sink v (lt-ltb v (2 * c) below)));
      }

  -- the view wants every node but the sink
  pub all_are_wanted : (v : ℕ) → v < 2 * c → IsRootOrWanted (bench_rules c levels) v
  unfolding rules_of
  all_are_wanted v below =
      elim (cases_eq v 0) [
        | inl root ↦ inl (sym root)
        | inr later ↦ inr (is_inner_node v (omega arith) below, inner_wanted v (omega arith) below)
      ]

  not_both : (r s : Bool) → s ≡ true → not (r || s) ≡ true → ⊥
  not_both r s is never = let both = or_right r s is in let none = not-true (r || s) never in cc

  pub no_others : (v : ℕ) → IsRootOrWanted (bench_rules c levels) v → v < 2 * c
  unfolding rules_of
  no_others v (inl root) = omega arith
  no_others v (inr is) =
      let fields = fields_of (strip_patches c) in
      let nodes = node_count c (omega arith) in
      let node = is.0.node in
      elim (cases_eq v (2 * c)) [
        | inl last ↦ absurd (not_both (is_root fields v) (is_sink fields v) (ap (λ (u : ℕ). is_sink fields u) last ∙ last_is_sink c (omega arith)) is.0.inner)
        | inr apart ↦ omega arith
      ]

  -- a patch that is no base patch leads from a node that the view wants
  tails_before : (p : ℕ) (f : PatchField) → slice_get (fields_of (strip_patches c)) p ≡ Some f → f.tail < 2 * c
  tails_before p f at =
      each_at (λ (g : PatchField). g.tail < 2 * c) (fields_of (strip_patches c)) p f at
      (each_field (λ (g : PatchField). g.tail < 2 * c) c (record { squares = λ i less. omega arith; lefts = λ i less. omega arith; rights = λ i less. omega arith; rounds = λ j less. omega arith }))

  pub is_of_wanted : (p : ℕ) (f : PatchField) → slice_get (fields_of (strip_patches c)) p ≡ Some f → is_marked (base_marks (fields_of (strip_patches c))) p ≡ false → IsOfWanted (bench_rules c levels) p
  unfolding rules_of
  is_of_wanted p f at free =
      let fields = fields_of (strip_patches c) in
      let below = tails_before p f at in
      let no_root : is_root fields f.tail ≡ false = sym (mark_at (λ (g : PatchField). is_root fields g.tail) fields p f at) ∙ free in
      elim (cases_eq f.tail 0) [
        | inl first ↦ absurd (let root : is_root fields f.tail ≡ true = ap (λ (u : ℕ). is_root fields u) first ∙ first_is_root c (omega arith) in cc)
        | inr later ↦ record { field = f; there = at; inner = is_inner_node f.tail (omega arith) below; wanted = inner_wanted f.tail (omega arith) below }
      ]

  -- ---- every frame is within the limit

  frame_within : (in_set : ℕ → Bool) (fields : List PatchField) → frame_size in_set fields ≤ triangles_in_all fields
  unfolding frame_size
  frame_within in_set [] = omega arith
  frame_within in_set (f ∷ fs) =
      let rest = frame_within in_set fs in
      let size = sum_by-cons (λ (g : PatchField). cond (leads_out in_set g) g.triangles 0) f fs in
      let all = sum_by-cons (λ (g : PatchField). g.triangles) f fs in
      let one = at_most (leads_out in_set f) f.triangles in
      omega arith
    where
      at_most : (b : Bool) (n : ℕ) → cond b n 0 ≤ n
      at_most true n = omega arith
      at_most false n = omega arith

  pub fits_all : FitsWanted (bench_rules c levels)
  unfolding rules_of
  fits_all = record {
    fits = λ first rest order wanted.
        let triangles = triangle_count c (omega arith) in
        let within = frame_within (has (with_members (root_set (bench_rules c levels)) first)) (fields_of (strip_patches c)) in
        omega arith;
  }

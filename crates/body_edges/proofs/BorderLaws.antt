-- The keys of a body's triangles have the triangles' net, and so has what is left of them.
use Rattle.std.proofs.Common.{◌≡◌, ◌≢◌, ◌∙◌, ℕ, ◌+◌, ◌*◌, ◌<◌, ◌≤◌, ◌&&◌, ◌||◌, true, false, not, List, [], ◌∷◌, ◌++◌, length, map, take, get_or, ℤ, ltb, refl, sym, ap, subst, arith, length-append}
use Rattle.std.specs.Prelude.{All, Option, Some, slice_get, unwrap_or}
use Rattle.std.specs.Ordering.{int_eq}
use Rattle.std.proofs.lemmas.Cmp.{int_eq_equiv}
use Rattle.std.specs.List.{list_all}
use Rattle.std.specs.List.Sorted.{IsPermutation, IsNonDecreasing}
use Rattle.std.proofs.lemmas.Bool.{false≢true, and_parts, or_parts, and_from, not-true, ltb-true}
use Rattle.std.proofs.lemmas.Int.{ints}
use Rattle.std.proofs.lemmas.List.{length-map, append-nil}
use Rattle.std.proofs.lemmas.List.Concat.{flat_map-cons}
use Rattle.std.proofs.lemmas.Grind.{flat_map-append}
use Rattle.std.proofs.lemmas.List.Elements.{All-nil, All-cons}
use Rattle.std.proofs.lemmas.List.Sums.{sum_by-cons}
use Rattle.std.proofs.lemmas.List.Sorted.{All-permutation, length_permutation}
use Rattle.grid_vertex.specs.declared.points.Point.{Point}
use Rattle.grid_vertex.specs.Triangles.{is_flat_triangle}
use Rattle.file_model.specs.Lists.{Corners, BodyLists, origin_point, point_at_place, triangle_of, triangles_from}
use Rattle.file_model.specs.Rules.{is_triangle, are_corners, is_body, is_narrow}
use Rattle.grid_vertex.specs.Points.{is_in_grid, is_same_point}
use Rattle.mesh_model.specs.Nets.{one_if, is_edge, edge_times, times, net}
use Rattle.edge_chain.specs.declared.edges.BorderEdge.{BorderEdge}
use Rattle.edge_chain.specs.Borders.{edges_times, edges_net}
use Rattle.body_edges.specs.Keys.{key_of, from_of, to_of, keys_of_corners, keys_in, IsKey, edge_between, keys_times, HaveSameNet}
use Rattle.body_edges.specs.Borders.{IsBorderOf}
use Rattle.body_edges.proofs.KeyLaws.{from_of_key, to_of_key}
use Rattle.body_edges.proofs.NetLaws.{key_times, keys_times-append, keys_times-cons, keys_times-nil, same_net_permuted, same_net_trans}
use Rattle.body_edges.proofs.DropLaws.{IsLeft}
use Rattle.body_edges.proofs.CancelLaws.{none_cancels}
use Rattle.body_edges.proofs.ListLaws.{append-take_one, map-take_one}

-- the corners are places of so many points
record HasCorners (points : ℕ) (t : Corners) : Type 0 where
  a : t.a < points
  b : t.b < points
  c : t.c < points
  ab : t.a ≢ t.b
  bc : t.b ≢ t.c
  ca : t.c ≢ t.a

int_itself : (x : ℤ) → int_eq x x ≡ true
int_itself x = (int_eq_equiv).refl x

same_itself : (p : Point) → is_same_point p p ≡ true
same_itself p = and_from (int_eq p.x p.x && int_eq p.y p.y) (int_eq p.z p.z) (and_from (int_eq p.x p.x) (int_eq p.y p.y) (int_itself p.x) (int_itself p.y)) (int_itself p.z)

-- places of different points are different
places_apart : (points : List Point) (i j : ℕ) → is_same_point (point_at_place points i) (point_at_place points j) ≡ false → i ≢ j
places_apart points i j h e =
    false≢true (sym h ∙ ap (λ (k : ℕ). is_same_point (point_at_place points k) (point_at_place points j)) e ∙ same_itself (point_at_place points j))

corners_there : (points : List Point) (t : Corners) → is_triangle points t ≡ true → HasCorners (length points) t
unfolding is_flat_triangle triangle_of
corners_there points t h =
    let there = and_parts (are_corners (length points) t) (not (is_flat_triangle (triangle_of points t))) h in
    let two = and_parts (ltb t.a (length points) && ltb t.b (length points)) (ltb t.c (length points)) there.0 in
    let one = and_parts (ltb t.a (length points)) (ltb t.b (length points)) two.0 in
    let tri = triangle_of points t in
    let sides = or_parts (is_same_point tri.a tri.b || is_same_point tri.b tri.c) (is_same_point tri.c tri.a) (not-true (is_flat_triangle tri) there.1) in
    let first = or_parts (is_same_point tri.a tri.b) (is_same_point tri.b tri.c) sides.0 in
    record {
      a = ltb-true t.a (length points) one.0;
      b = ltb-true t.b (length points) one.1;
      c = ltb-true t.c (length points) two.1;
      ab = places_apart points t.a t.b first.0;
      bc = places_apart points t.b t.c first.1;
      ca = places_apart points t.c t.a sides.1;
    }

is_key : (points from to : ℕ) → points ≤ 65535 → from < points → to < points → from ≢ to → IsKey points (key_of from to)
is_key points from to few h k apart =
    let begin : from_of (key_of from to) ≡ from = from_of_key from to (omega arith) (omega arith) in
    let end : to_of (key_of from to) ≡ to = to_of_key from to (omega arith) (omega arith) in
    record {
      from = subst (λ (n : ℕ). n < points) (sym begin) h;
      to = subst (λ (n : ℕ). n < points) (sym end) k;
      apart = λ e. apart (sym begin ∙ e ∙ end);
      made = sym (ap (λ (n : ℕ). key_of n (to_of (key_of from to))) begin ∙ ap (λ (n : ℕ). key_of from n) end);
    }

-- a key's edge stands where its two places' points do
key_times_is : (points : List Point) (a b : Point) (from to : ℕ) → from < 65536 → to < 65536 → key_times points a b (key_of from to) ≡ one_if (is_edge a b (point_at_place points from) (point_at_place points to))
unfolding edge_between
key_times_is points a b from to h k =
    ap (λ (n : ℕ). one_if (is_edge a b (point_at_place points n) (point_at_place points (to_of (key_of from to))))) (from_of_key from to h k)
    ∙ ap (λ (n : ℕ). one_if (is_edge a b (point_at_place points from) (point_at_place points n))) (to_of_key from to h k)

triangle_times : (points : List Point) (t : Corners) (a b : Point) → length points ≤ 65535 → HasCorners (length points) t → keys_times points (keys_of_corners t) a b ≡ edge_times a b (triangle_of points t)
unfolding keys_of_corners edge_times triangle_of
triangle_times points t a b few h =
    omega (
      arith,
      keys_times-cons points (key_of t.a t.b) (key_of t.b t.c ∷ key_of t.c t.a ∷ []) a b,
      keys_times-cons points (key_of t.b t.c) (key_of t.c t.a ∷ []) a b,
      keys_times-cons points (key_of t.c t.a) [] a b,
      keys_times-nil points a b,
      key_times_is points a b t.a t.b (omega (arith, h.a)) (omega (arith, h.b)),
      key_times_is points a b t.b t.c (omega (arith, h.b)) (omega (arith, h.c)),
      key_times_is points a b t.c t.a (omega (arith, h.c)) (omega (arith, h.a)),
    )

all_times : (points : List Point) (corners : List Corners) (a b : Point) → length points ≤ 65535 → list_all (is_triangle points) corners ≡ true → keys_times points (keys_in corners) a b ≡ times (triangles_from points corners) a b
unfolding times triangles_from
all_times points [] a b few h = keys_times-nil points a b
all_times points (t ∷ ts) a b few h =
    let parts = and_parts (is_triangle points t) (list_all (is_triangle points) ts) h in
    ap (λ (keys : List ℕ). keys_times points keys a b) (flat_map-cons keys_of_corners t ts)
    ∙ omega (
      arith,
      keys_times-append points (keys_of_corners t) (keys_in ts) a b,
      triangle_times points t a b few (corners_there points t parts.0),
      all_times points ts a b few parts.1,
      sum_by-cons (edge_times a b) (triangle_of points t) (triangles_from points ts),
    )

all_keys : (points : List Point) (corners : List Corners) → length points ≤ 65535 → list_all (is_triangle points) corners ≡ true → All (IsKey (length points)) (keys_in corners)
unfolding keys_of_corners
all_keys points [] few h = All-nil (IsKey (length points))
all_keys points (t ∷ ts) few h =
    let parts = and_parts (is_triangle points t) (list_all (is_triangle points) ts) h in
    let k = corners_there points t parts.0 in
    let P : ℕ → Type 0 = IsKey (length points) in
    subst (λ (keys : List ℕ). All P keys) (sym (flat_map-cons keys_of_corners t ts))
    (All-cons P (key_of t.a t.b) (key_of t.b t.c ∷ key_of t.c t.a ∷ keys_in ts) (is_key (length points) t.a t.b few k.a k.b k.ab)
    (All-cons P (key_of t.b t.c) (key_of t.c t.a ∷ keys_in ts) (is_key (length points) t.b t.c few k.b k.c k.bc)
    (All-cons P (key_of t.c t.a) (keys_in ts) (is_key (length points) t.c t.a few k.c k.a k.ca) (all_keys points ts few parts.1))))

length-keys_in : (corners : List Corners) → length (keys_in corners) ≡ 3 * length corners
unfolding keys_of_corners
length-keys_in [] = refl
length-keys_in (t ∷ ts) =
    ap length (flat_map-cons keys_of_corners t ts) ∙ omega (arith, length-append (keys_of_corners t) (keys_in ts), length-keys_in ts)

-- one triangle's keys more
pub keys_in_more : (corners : List Corners) (i : ℕ) (t : Corners) → slice_get corners i ≡ Some t → keys_in (take i corners) ++ keys_of_corners t ≡ keys_in (take (i + 1) corners)
keys_in_more corners i t at =
    ap (λ (keys : List ℕ). keys_in (take i corners) ++ keys) (sym (append-nil (keys_of_corners t)) ∙ sym (flat_map-cons keys_of_corners t []))
    ∙ sym (flat_map-append keys_of_corners (take i corners) (t ∷ []))
    ∙ ap keys_in (append-take_one [] corners i t at)

-- the edges of keys stand as often as the keys'
edges_times_is : (points : List Point) (keys : List ℕ) (a b : Point) → edges_times (map (edge_between points) keys) a b ≡ keys_times points keys a b
unfolding edges_times
edges_times_is points [] a b = sym (keys_times-nil points a b)
edges_times_is points (key ∷ keys) a b =
    omega (
      arith,
      sum_by-cons (λ (e : BorderEdge). one_if (is_edge a b e.from e.to)) (edge_between points key) (map (edge_between points) keys),
      keys_times-cons points key keys a b,
      edges_times_is points keys a b,
    )

pub triangles_are : (version : ℕ) (lists : BodyLists) → is_body version lists ≡ true → list_all (is_triangle lists.points) lists.corners ≡ true
unfolding is_body
triangles_are version lists h = (and_parts (list_all is_in_grid lists.points && is_narrow version lists.points) (list_all (is_triangle lists.points) lists.corners) h).1

-- keys that are left of a body's, in any order
pub record AreLeftOf (lists : BodyLists) (left : List ℕ) : Type 0 where
  pub few : length lists.points ≤ 65535
  pub triangles : list_all (is_triangle lists.points) lists.corners ≡ true
  pub sorted : List ℕ
  pub moved : IsPermutation (keys_in lists.corners) sorted
  pub ascending : IsNonDecreasing sorted
  pub left_is : IsLeft left sorted

pub are_keys : (lists : BodyLists) (left : List ℕ) → AreLeftOf lists left → All (IsKey (length lists.points)) left
are_keys lists left h =
    h.left_is.all (length lists.points) (All-permutation (IsKey (length lists.points)) (keys_in lists.corners) h.sorted h.moved (all_keys lists.points lists.corners h.few h.triangles))

pub border_is : (lists : BodyLists) (left : List ℕ) → AreLeftOf lists left → IsBorderOf (map (edge_between lists.points) left) lists
unfolding edges_net net
border_is lists left h =
    let same : HaveSameNet left (keys_in lists.corners) = same_net_trans _ _ _ h.left_is.net (same_net_permuted (keys_in lists.corners) h.sorted h.moved) in
    record {
      net = λ a b.
          omega (
            arith,
            ints,
            same.same lists.points a b,
            edges_times_is lists.points left a b,
            edges_times_is lists.points left b a,
            all_times lists.points lists.corners a b h.few h.triangles,
            all_times lists.points lists.corners b a h.few h.triangles,
          );
      one_way = none_cancels lists.points left h.few (are_keys lists left h) (h.left_is.one_way h.ascending);
      few = omega (arith, length-map left (edge_between lists.points), h.left_is.few, length_permutation (keys_in lists.corners) h.sorted h.moved, length-keys_in lists.corners);
    }

-- one edge of the keys more
pub edges_more : (points : List Point) (keys : List ℕ) (i : ℕ) (before after : List BorderEdge) (edge : BorderEdge) (f t : ℕ) → i < length keys → before ≡ map (edge_between points) (take i keys) → after ≡ before ++ (edge ∷ []) → f ≡ from_of (get_or keys i 0) → t ≡ to_of (get_or keys i 0) → slice_get points f ≡ Some edge.from → slice_get points t ≡ Some edge.to → after ≡ map (edge_between points) (take (i + 1) keys)
unfolding edge_between point_at_place
edges_more points keys i before after edge f t within so_far grown e d there here =
    let from : edge.from ≡ point_at_place points (from_of (get_or keys i 0)) = sym (ap (λ (n : ℕ). unwrap_or (slice_get points n) origin_point) (sym e) ∙ ap (λ (o : Option Point). unwrap_or o origin_point) there) in
    let to : edge.to ≡ point_at_place points (to_of (get_or keys i 0)) = sym (ap (λ (n : ℕ). unwrap_or (slice_get points n) origin_point) (sym d) ∙ ap (λ (o : Option Point). unwrap_or o origin_point) here) in
    grown ∙ ap (λ (edges : List BorderEdge). edges ++ (edge ∷ [])) so_far
    ∙ map-take_one (edge_between points) keys i 0 edge within (λ k. record { from = from k; to = to k })

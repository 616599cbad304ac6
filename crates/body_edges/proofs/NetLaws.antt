-- How often edges stand among keys, and lists of keys with the same net.
use Rattle.std.proofs.Common.{◌≡◌, ◌∙◌, ℕ, ◌+◌, Bool, true, false, List, [], ◌∷◌, ◌++◌, refl, sym, ap, arith}
use Rattle.std.specs.Prelude.{◌&&◌}
use Rattle.std.specs.List.Sorted.{IsPermutation}
use Rattle.std.proofs.lemmas.List.Sums.{sum_by-cons, sum_by-append}
use Rattle.std.proofs.lemmas.List.Sorted.{sum_by-IsPermutation}
use Rattle.grid_vertex.specs.declared.points.Point.{Point}
use Rattle.grid_vertex.specs.Points.{is_same_point}
use Rattle.file_model.specs.Lists.{point_at_place}
use Rattle.mesh_model.specs.Nets.{one_if, is_edge}
use Rattle.body_edges.specs.Keys.{from_of, to_of, are_opposite, edge_between, keys_times, HaveSameNet}
use Rattle.body_edges.proofs.KeyLaws.{opposite_ends}

-- 1 where the key's edge goes from a to b
abbrev pub key_times : List Point → Point → Point → ℕ → ℕ
key_times points a b key = one_if (is_edge a b (edge_between points key).from (edge_between points key).to)

pub keys_times-append : (points : List Point) (front back : List ℕ) (a b : Point) → keys_times points (front ++ back) a b ≡ keys_times points front a b + keys_times points back a b
unfolding keys_times
keys_times-append points front back a b = sum_by-append (key_times points a b) front back

pub keys_times-cons : (points : List Point) (key : ℕ) (keys : List ℕ) (a b : Point) → keys_times points (key ∷ keys) a b ≡ key_times points a b key + keys_times points keys a b
unfolding keys_times
keys_times-cons points key keys a b = sum_by-cons (key_times points a b) key keys

pub keys_times-nil : (points : List Point) (a b : Point) → keys_times points [] a b ≡ 0
unfolding keys_times
keys_times-nil points a b = refl

pub same_net_permuted : (before after : List ℕ) → IsPermutation before after → HaveSameNet after before
unfolding keys_times
same_net_permuted before after h = record {
  same = λ points a b.
      let forward = sum_by-IsPermutation (key_times points a b) before after h in
      let back = sum_by-IsPermutation (key_times points b a) before after h in
      omega (arith, forward, back);
}

pub same_net_itself : (keys : List ℕ) → HaveSameNet keys keys
same_net_itself keys = record { same = λ points a b. refl }

pub same_net_trans : (first second third : List ℕ) → HaveSameNet first second → HaveSameNet second third → HaveSameNet first third
same_net_trans first second third h k = record { same = λ points a b. omega (arith, h.same points a b, k.same points a b) }

either_way : (x y : Bool) → one_if (x && y) ≡ one_if (y && x)
either_way true true = refl
either_way true false = refl
either_way false true = refl
either_way false false = refl

-- an opposite key's edge goes from a to b where the key's goes from b to a
opposite_times : (points : List Point) (first second : ℕ) (a b : Point) → (from_of first ≡ to_of second) × (from_of second ≡ to_of first) → key_times points a b first ≡ key_times points b a second
unfolding edge_between
opposite_times points first second a b h =
    ap (λ (from : ℕ). one_if (is_edge a b (point_at_place points from) (point_at_place points (to_of first)))) h.0
    ∙ ap (λ (to : ℕ). one_if (is_edge a b (point_at_place points (to_of second)) (point_at_place points to))) (sym h.1)
    ∙ either_way (is_same_point (point_at_place points (to_of second)) a) (is_same_point (point_at_place points (from_of second)) b)

-- a key and its opposite side by side may go
pub same_net_dropped : (front back : List ℕ) (first second : ℕ) → are_opposite first second ≡ true → HaveSameNet (front ++ back) ((front ++ first ∷ []) ++ second ∷ back)
same_net_dropped front back first second h = record {
  same = λ points a b.
      let ends = opposite_ends first second h in
      let there = opposite_times points first second a b ends in
      let here = opposite_times points first second b a ends in
      omega (
        arith,
        there,
        here,
        keys_times-append points front back a b,
        keys_times-append points front back b a,
        keys_times-append points (front ++ first ∷ []) (second ∷ back) a b,
        keys_times-append points (front ++ first ∷ []) (second ∷ back) b a,
        keys_times-append points front (first ∷ []) a b,
        keys_times-append points front (first ∷ []) b a,
        keys_times-cons points first [] a b,
        keys_times-cons points first [] b a,
        keys_times-nil points a b,
        keys_times-nil points b a,
        keys_times-cons points second back a b,
        keys_times-cons points second back b a,
      );
}

-- Chains of edges: the net of each pair of points, where it isn't 0, and how many triangles there are.
use Rattle.std.specs.Prelude.{◌≡◌, ◌≢◌, ℕ, ◌+◌, Bool, ◌&&◌, List, [], ◌∷◌, length, ℤ, pos, ◌+ℤ◌, unwrap_or, Contains, IsTrue}
use Rattle.std.specs.Map.{lookup, keys_of}
use Rattle.grid_vertex.specs.declared.triangles.Triangle.{Triangle}
use Rattle.grid_vertex.specs.Points.{is_same_point}
use Rattle.edge_chain.specs.declared.differences.Difference.{Difference}
use Rattle.mesh_model.specs.Nets.{net, Pair, is_before, is_forward, is_pair_before, Ascend}

abbrev pub is_same_pair : Pair → Pair → Bool
is_same_pair p q = is_same_point p.a q.a && is_same_point p.b q.b

-- the integer of the pair's entry, 0 where it has none
abbrev pub kept_net : List (Pair × ℤ) → Pair → ℤ
kept_net entries pair = unwrap_or (lookup (is_same_pair pair) entries) (pos 0)

-- the sums of a list of triangles, and their number
pub record Chain : Type 0 where
  pub entries : List (Pair × ℤ)
  pub count : ℕ

-- the pairs ascend, the lesser point of each comes first, and no integer is 0
pub record AreEntries (entries : List (Pair × ℤ)) : Type 0 where
  pub ascending : Ascend (keys_of entries)
  pub forward : (e : Pair × ℤ) → Contains entries e → IsTrue (is_forward e.0)
  pub not_zero : (e : Pair × ℤ) → Contains entries e → e.1 ≢ pos 0

-- two lists of entries hold the same at each pair, the lesser point first
abbrev pub HoldSame : List (Pair × ℤ) → List (Pair × ℤ) → Type 0
HoldSame here there = (p : Pair) → IsTrue (is_forward p) → kept_net here p ≡ kept_net there p

-- one more triangle: each pair grows by the triangle's net
pub record Adds (triangle : Triangle) (before after : Chain) : Type 0 where
  pub count : after.count ≡ before.count + 1
  pub nets : (p : Pair) → IsTrue (is_forward p) → kept_net after.entries p ≡ kept_net before.entries p +ℤ net (triangle ∷ []) p.a p.b
  pub entries : AreEntries after.entries

-- the chain holds the net of the triangles at each pair
pub record IsNetOf (triangles : List Triangle) (chain : Chain) : Type 0 where
  pub count : chain.count ≡ length triangles
  pub nets : (p : Pair) → IsTrue (is_forward p) → kept_net chain.entries p ≡ net triangles p.a p.b
  pub entries : AreEntries chain.entries

-- the pair is the least at which the lists differ, with what each holds there
pub record IsFirstDifference (here there : List (Pair × ℤ)) (difference : Difference) : Type 0 where
  pub forward : IsTrue (is_before difference.a difference.b)
  pub here_is : kept_net here (record { a = difference.a; b = difference.b }) ≡ difference.here
  pub there_is : kept_net there (record { a = difference.a; b = difference.b }) ≡ difference.there
  pub differs : difference.here ≢ difference.there
  pub least : (p : Pair) → IsTrue (is_forward p) → IsTrue (is_pair_before p (record { a = difference.a; b = difference.b })) → kept_net here p ≡ kept_net there p

-- the pair is the least, the lesser point first, at which the nets differ, with both nets
pub record IsFirstNetDifference (first second : List Triangle) (difference : Difference) : Type 0 where
  pub forward : IsTrue (is_before difference.a difference.b)
  pub here_is : net first difference.a difference.b ≡ difference.here
  pub there_is : net second difference.a difference.b ≡ difference.there
  pub differs : difference.here ≢ difference.there
  pub least : (p : Pair) → IsTrue (is_forward p) → IsTrue (is_pair_before p (record { a = difference.a; b = difference.b })) → net first p.a p.b ≡ net second p.a p.b

-- Edges between a body's points as numbers.
use Rattle.std.specs.Prelude.{◌≡◌, ◌≢◌, ℕ, ◌+◌, ◌*◌, ◌/◌, ◌%◌, ◌<◌, ◌≤◌, ◌==◌, Bool, not, ◌&&◌, List, [], ◌∷◌, length, slice_index, nat_lt, if◌then◌else◌}
use Rattle.std.specs.List.{flat_map, sum_by}
use Rattle.grid_vertex.specs.declared.points.Point.{Point}
use Rattle.file_model.specs.Lists.{Corners, point_at_place}
use Rattle.mesh_model.specs.Nets.{one_if, is_edge}
use Rattle.edge_chain.specs.declared.edges.BorderEdge.{BorderEdge}

-- the edge from one place to another: an edge and its opposite have the same half
unfoldable pub key_of : ℕ → ℕ → ℕ
key_of from to = if nat_lt from to then (from * 65536 + to) * 2 else (to * 65536 + from) * 2 + 1

-- of the two places in a key's half the lesser one, or the other
abbrev pub end_of : ℕ → Bool → ℕ
end_of half low = if low then half / 65536 else half % 65536

-- the places that a key's edge goes from and to
unfoldable pub from_of : ℕ → ℕ
from_of key = end_of (key / 2) (key % 2 == 0)

unfoldable pub to_of : ℕ → ℕ
to_of key = end_of (key / 2) (key % 2 == 1)

-- the keys are of an edge and its opposite
abbrev pub are_opposite : ℕ → ℕ → Bool
are_opposite first second = first / 2 == second / 2 && not (first == second)

-- a triangle's three edges
unfoldable pub keys_of_corners : Corners → List ℕ
keys_of_corners t = key_of t.a t.b ∷ key_of t.b t.c ∷ key_of t.c t.a ∷ []

-- the edges of triangles
abbrev pub keys_in : List Corners → List ℕ
keys_in corners = flat_map keys_of_corners corners

-- the key is of an edge from a place of so many points to another
pub record IsKey (points key : ℕ) : Type 0 where
  pub from : from_of key < points
  pub to : to_of key < points
  pub apart : from_of key ≢ to_of key
  pub made : key ≡ key_of (from_of key) (to_of key)

-- the edge of a key between the points of a list
unfoldable pub edge_between : List Point → ℕ → BorderEdge
edge_between points key = record { from = point_at_place points (from_of key); to = point_at_place points (to_of key) }

-- how often the edge from a to b stands among the edges of keys
unfoldable pub keys_times : List Point → List ℕ → Point → Point → ℕ
keys_times points keys a b = sum_by (λ key. one_if (is_edge a b (edge_between points key).from (edge_between points key).to)) keys

-- whatever the points are, what stands more often among some keys than among others does so the other way round
pub record HaveSameNet (some others : List ℕ) : Type 0 where
  pub same : (points : List Point) (a b : Point) → keys_times points some a b + keys_times points others b a ≡ keys_times points others a b + keys_times points some b a

-- keys with one half are one key: an edge's opposite isn't among them
abbrev pub NoOpposites : List ℕ → Type 0
NoOpposites keys = (i j : ℕ) → i ≤ j → j < length keys → slice_index keys i / 2 ≡ slice_index keys j / 2 → slice_index keys i ≡ slice_index keys j

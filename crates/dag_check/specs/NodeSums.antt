-- What is kept of a node, and how a body changes it.
use Rattle.std.specs.Prelude.{◌≡◌, ℕ, ◌+◌, ◌*◌, ◌≤◌, ◌<◌, Bool, false, ◌&&◌, List, [], length, drop, nat_lt, Option, None, MatchOption, if◌then◌else◌}
use Rattle.std.specs.List.{sum_by}
use Rattle.grid_vertex.specs.declared.triangles.Triangle.{Triangle}
use Rattle.file_model.specs.declared.fields.PatchField.{PatchField}
use Rattle.file_model.specs.Lists.{BodyLists}
use Rattle.mesh_model.specs.Nets.{one_if, HaveOneNet}
use Rattle.mesh_model.specs.Accepted.{is_inner}
use Rattle.mesh_model.specs.Sides.{is_on}
use Rattle.edge_chain.specs.declared.differences.Difference.{Difference}
use Rattle.edge_chain.specs.Chains.{Chain, IsNetOf, IsFirstNetDifference}
use Rattle.mesh_model.specs.declared.sides.NodeSide.{NodeSide}
use Rattle.mesh_model.specs.declared.sides.NodeSide.TheVariants.{Incoming, Outgoing}
use Rattle.dag_check.specs.declared.node_sums.NodeSums.{NodeSums}
use Rattle.dag_check.specs.Added.{Grows, first_triangles}

abbrev pub other : NodeSide → NodeSide
other Incoming = Outgoing
other Outgoing = Incoming

-- how many bodies were added to the sums on each side
pub record Taken : Type 0 where
  pub incoming : ℕ
  pub outgoing : ℕ

abbrev pub taken_on : NodeSide → Taken → ℕ
taken_on Incoming taken = taken.incoming
taken_on Outgoing taken = taken.outgoing

-- the same number on both sides
abbrev pub taken_both : ℕ → Taken
taken_both n = record { incoming = n; outgoing = n }

-- one body more on a side
abbrev pub one_more : NodeSide → Taken → Taken
one_more Incoming taken = record { incoming = taken.incoming + 1; outgoing = taken.outgoing }
one_more Outgoing taken = record { incoming = taken.incoming; outgoing = taken.outgoing + 1 }

-- how many of the list pass the test
unfoldable pub how_many : {X : Type 0} → (X → Bool) → List X → ℕ
how_many test xs = sum_by (λ x. one_if (test x)) xs

-- how many bodies are still to come to the two sides of a node
abbrev pub to_come : List PatchField → Taken → ℕ → ℕ
to_come fields taken v = how_many (is_on Incoming v) (drop taken.incoming fields) + how_many (is_on Outgoing v) (drop taken.outgoing fields)

-- the number, and 0 where the node isn't inner
abbrev pub if_inner : List PatchField → ℕ → ℕ → ℕ
if_inner fields v n = if is_inner fields v then n else 0

-- how many patches an inner node has on its two sides together
abbrev pub inner_patches : List PatchField → ℕ → ℕ
inner_patches fields v = if_inner fields v (to_come fields (taken_both 0) v)

-- the sum of no triangle
abbrev pub empty_chain : Chain
empty_chain = record { entries = []; count = 0 }

abbrev pub empty_node_sums : ℕ → NodeSums
empty_node_sums total = record { incoming = empty_chain; outgoing = empty_chain; total = total; left = total }

abbrev pub chain_on : NodeSide → NodeSums → Chain
chain_on Incoming t = t.incoming
chain_on Outgoing t = t.outgoing

-- some but not all bodies were added
abbrev pub is_under_way : NodeSums → Bool
is_under_way t = nat_lt 0 t.left && nat_lt t.left t.total

-- how many pairs the two sums keep
abbrev pub pairs_of : NodeSums → ℕ
pairs_of t = length t.incoming.entries + length t.outgoing.entries

-- the sum on one side grows by a body
pub record IsGrown (side : NodeSide) (body : BodyLists) (before after : NodeSums) : Type 0 where
  pub grows : Grows body (chain_on side before) (chain_on side after)
  pub other_side : chain_on (other side) after ≡ chain_on (other side) before
  pub total : after.total ≡ before.total
  pub left : after.left + 1 ≡ before.left

-- the sums are dropped
abbrev pub settled : NodeSums → NodeSums
settled t = record t { incoming = empty_chain; outgoing = empty_chain }

-- the answer is where the nets of the two sides differ first
abbrev pub Compares : NodeSums → Option Difference → Type 0
Compares t difference = (here there : List Triangle) → IsNetOf here t.incoming → IsNetOf there t.outgoing → MatchOption difference (HaveOneNet here there) (IsFirstNetDifference here there)

-- a body is taken on one side of a node that isn't inner; of an inner one that has more to come; or it is
-- an inner one's last body, and its sums are compared and dropped
pub data Takes (side : NodeSide) (body : BodyLists) (before after : NodeSums) (difference : Option Difference) : Type 0 where
  outer : before.total ≡ 0 → after ≡ before → difference ≡ None → Takes side body before after difference
  more : 0 < before.total → IsGrown side body before after → 0 < after.left → difference ≡ None → Takes side body before after difference
  last : 0 < before.total → (grown : NodeSums) → IsGrown side body before grown → grown.left ≡ 0 → after ≡ settled grown → Compares grown difference → Takes side body before after difference

-- the chain is the net of some triangles, and so many bodies can have them
pub record IsSum (bodies : ℕ) (chain : Chain) : Type 0 where
  pub triangles : List Triangle
  pub net : IsNetOf triangles chain
  pub few : chain.count ≤ 65535 * bodies

-- both sums are of no triangle
pub record AreDropped (t : NodeSums) : Type 0 where
  pub incoming : t.incoming ≡ empty_chain
  pub outgoing : t.outgoing ≡ empty_chain

-- what is kept of a node, once so many bodies were added
pub record AreNodeSums (fields : List PatchField) (taken : Taken) (v : ℕ) (t : NodeSums) : Type 0 where
  pub total : t.total ≡ inner_patches fields v
  pub left : t.left ≡ if_inner fields v (to_come fields taken v)
  pub dropped : is_under_way t ≡ false → AreDropped t
  pub sums : (side : NodeSide) → IsSum (taken_on side taken) (chain_on side t)

-- until the node's last body its sums have the nets of the bodies that were added
abbrev pub NodeSumsFollow : List PatchField → Taken → List BodyLists → ℕ → NodeSums → Type 0
NodeSumsFollow fields taken bodies v t = 0 < t.left → (side : NodeSide) → IsNetOf (first_triangles (taken_on side taken) (is_on side v) fields bodies) (chain_on side t)

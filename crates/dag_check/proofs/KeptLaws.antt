-- The pairs that are kept are those of the open nodes.
use Rattle.std.specs.Prelude.{◌≡◌, ℕ, zero, suc, ◌+◌, ◌<◌, true, false, List, [], ◌∷◌, length, map, slice_get, Some, nat_lt, refl}
use Rattle.std.specs.List.{sum_by}
use Rattle.std.specs.Map.{keys_of}
use Rattle.std.proofs.Common.{sym, ap, ◌∙◌, subst, arith}
use Rattle.std.proofs.lemmas.Bool.{and_parts, ltb-true}
use Rattle.std.proofs.lemmas.List.{length-map}
use Rattle.std.proofs.lemmas.List.Sums.{sum_by-cons, sum-map}
use Rattle.std.proofs.lemmas.Map.Entries.{length-keys_of}
use Rattle.file_model.specs.Lists.{BodyLists, IndexLists}
use Rattle.edge_chain.specs.Chains.{Chain, IsNetOf}
use Rattle.edge_chain.specs.NetLaws.{open_from_net}
use Rattle.mesh_model.specs.declared.sides.NodeSide.{NodeSide}
use Rattle.mesh_model.specs.declared.sides.NodeSide.TheVariants.{Incoming, Outgoing}
use Rattle.dag_check.specs.declared.node_sums.NodeSums.{NodeSums}
use Rattle.dag_check.specs.Added.{first_triangles}
use Rattle.dag_check.specs.Open.{AreKept, KeepsPairs}
use Rattle.mesh_model.specs.Sides.{is_on}
use Rattle.dag_check.specs.NodeSums.{taken_on, taken_both, chain_on, is_under_way, AreDropped}
use Rattle.dag_check.specs.AllNodeSums.{AllSumsSeen, pairs_in_all, AreAllSums, AllSumsFollow}
use Rattle.dag_check.proofs.OpenLaws.{open_same}

-- how many pairs a node's sum on a side keeps
abbrev kept_on : NodeSide → NodeSums → ℕ
kept_on side t = length (chain_on side t).entries

-- what stands in a list of what each element gives
record IsGiven {X : Type 0} (f : X → ℕ) (xs : List X) (v k : ℕ) : Type 0 where
  element : X
  there : slice_get xs v ≡ Some element
  gives : f element ≡ k

map_read : {X : Type 0} → (f : X → ℕ) (xs : List X) (v k : ℕ) → slice_get (map f xs) v ≡ Some k → IsGiven f xs v k
map_read f [] v k e = absurd cc
map_read f (x ∷ xs) zero k e = record { element = x; there = refl; gives = cc }
map_read f (x ∷ xs) (suc v) k e = let rest = map_read f xs v k e in record { element = rest.element; there = rest.there; gives = rest.gives }

sum_by-both : (f g : NodeSums → ℕ) (xs : List NodeSums) → sum_by (λ t. f t + g t) xs ≡ sum_by f xs + sum_by g xs
sum_by-both f g [] = refl
sum_by-both f g (x ∷ xs) = omega (arith, sum_by-cons (λ (t : NodeSums). f t + g t) x xs, sum_by-cons f x xs, sum_by-cons g x xs, sum_by-both f g xs)

taken_is : (side : NodeSide) (n : ℕ) → taken_on side (taken_both n) ≡ n
taken_is Incoming n = refl
taken_is Outgoing n = refl

dropped_on : (side : NodeSide) (t : NodeSums) → AreDropped t → kept_on side t ≡ 0
dropped_on Incoming t h = ap (λ (c : Chain). length c.entries) h.incoming
dropped_on Outgoing t h = ap (λ (c : Chain). length c.entries) h.outgoing

are_kept : (side : NodeSide) (index : IndexLists) (n : ℕ) (bodies : List BodyLists) (all_sums : AllSumsSeen) → AreAllSums index (taken_both n) all_sums → AllSumsFollow index (taken_both n) bodies all_sums → AreKept (is_on side) index n bodies (map (kept_on side) all_sums.node_sums)
are_kept side index n bodies all_sums is follows = record {
  as_many = length-map all_sums.node_sums (kept_on side) ∙ is.as_many;
  open_ones = λ v opens k at.
      (let given = map_read (kept_on side) all_sums.node_sums v k at in
      let way : is_under_way given.element ≡ true = sym (open_same index.fields n v given.element (is.are_node_sums v given.element given.there)) ∙ opens in
      let low : 0 < given.element.left = ltb-true 0 given.element.left (and_parts (nat_lt 0 given.element.left) (nat_lt given.element.left given.element.total) way).0 in
      record {
        pairs = keys_of (chain_on side given.element).entries;
        are_open = open_from_net _ _ (subst (λ (m : ℕ). IsNetOf (first_triangles m (is_on side v) index.fields bodies) (chain_on side given.element)) (taken_is side n) (follows.node_sums v given.element given.there low side));
        number = length-keys_of (chain_on side given.element).entries ∙ given.gives;
      });
  others = λ v closed k at.
      (let given = map_read (kept_on side) all_sums.node_sums v k at in
      let rests : is_under_way given.element ≡ false = sym (open_same index.fields n v given.element (is.are_node_sums v given.element given.there)) ∙ closed in
      sym given.gives ∙ dropped_on side given.element ((is.are_node_sums v given.element given.there).dropped rests));
}

pub keeps : (index : IndexLists) (n : ℕ) (bodies : List BodyLists) (all_sums : AllSumsSeen) → AreAllSums index (taken_both n) all_sums → AllSumsFollow index (taken_both n) bodies all_sums → KeepsPairs index n bodies (pairs_in_all all_sums.node_sums)
keeps index n bodies all_sums is follows = record {
  incoming = map (kept_on Incoming) all_sums.node_sums;
  outgoing = map (kept_on Outgoing) all_sums.node_sums;
  in_are = are_kept Incoming index n bodies all_sums is follows;
  out_are = are_kept Outgoing index n bodies all_sums is follows;
  total = omega (arith, sum_by-both (kept_on Incoming) (kept_on Outgoing) all_sums.node_sums, sum-map (kept_on Incoming) all_sums.node_sums, sum-map (kept_on Outgoing) all_sums.node_sums);
}

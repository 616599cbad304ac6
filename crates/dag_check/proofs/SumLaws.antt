-- How large the counts of all sums can be, and how one term changes them.
use Rattle.std.specs.Prelude.{◌≡◌, ℕ, suc, ◌+◌, ◌-◌, ◌*◌, ◌<◌, ◌≤◌, Bool, true, false, List, [], ◌∷◌, length, slice_get, Some, refl}
use Rattle.std.specs.List.{sum_by}
use Rattle.std.specs.Map.{keys_of}
use Rattle.std.proofs.Common.{sym, ap, ◌∙◌, set, take, get_or, arith}
use Rattle.std.proofs.lemmas.List.{take_more}
use Rattle.std.proofs.lemmas.Option.{slice_get_within, get_or_from_slice_get}
use Rattle.std.proofs.lemmas.List.Sums.{sum_by-cons, sum_by-set, sum_by_push, sum_by-take-le, get_or-le-sum_by}
use Rattle.std.proofs.lemmas.Map.Entries.{length-keys_of}
use Rattle.mesh_model.specs.Nets.{one_if}
use Rattle.edge_chain.specs.Chains.{Chain}
use Rattle.edge_chain.specs.NetLaws.{open_from_net}
use Rattle.mesh_model.specs.declared.sides.NodeSide.{NodeSide}
use Rattle.mesh_model.specs.declared.sides.NodeSide.TheVariants.{Incoming, Outgoing}
use Rattle.dag_check.specs.declared.node_sums.NodeSums.{NodeSums}
use Rattle.dag_check.specs.NodeSums.{chain_on, is_under_way, pairs_of, IsSum}
use Rattle.dag_check.specs.AllNodeSums.{AllSumsSeen, under_way, pairs_in_all, IsSummed}
use Rattle.dag_check.proofs.PairLaws.{few_pairs}

-- a chain has six entries for each triangle at most
few_entries : (chain : Chain) → IsSum 65536 chain → length chain.entries ≤ 6 * 65535 * 65536
few_entries chain h =
    omega (arith, few_pairs h.triangles (keys_of chain.entries) (open_from_net h.triangles chain h.net), length-keys_of chain.entries, h.net.count, h.few)

few_kept : (t : NodeSums) → ((s : NodeSide) → IsSum 65536 (chain_on s t)) → pairs_of t ≤ 12 * 65535 * 65536
few_kept t h = omega (arith, few_entries t.incoming (h Incoming), few_entries t.outgoing (h Outgoing))

-- a sum over a list of terms that are small
pub sum_by_few : {X : Type 0} → (f : X → ℕ) (most : ℕ) (xs : List X) → ((v : ℕ) (x : X) → slice_get xs v ≡ Some x → f x ≤ most) → sum_by f xs ≤ most * length xs
sum_by_few f most [] h = omega arith
sum_by_few f most (x ∷ xs) h =
    omega (arith, sum_by-cons f x xs, h 0 x refl, sum_by_few f most xs (λ v y e. h (suc v) y e))

pub one_if_few : (b : Bool) → one_if b ≤ 1
one_if_few true = omega arith
one_if_few false = omega arith

pub few_under_way : (node_sums : List NodeSums) → under_way node_sums ≤ length node_sums
few_under_way node_sums = omega (arith, sum_by_few (λ (t : NodeSums). one_if (is_under_way t)) 1 node_sums (λ v t e. one_if_few (is_under_way t)))

pub few_kept_at : (all_sums : AllSumsSeen) → IsSummed all_sums → (v : ℕ) (t : NodeSums) → slice_get all_sums.node_sums v ≡ Some t → pairs_of t ≤ 12 * 65535 * 65536
few_kept_at all_sums h v t at = few_kept t (h.sums v t at)

pub few_in_all : (all_sums : AllSumsSeen) → IsSummed all_sums → pairs_in_all all_sums.node_sums ≤ 12 * 65535 * 65536 * 65536
few_in_all all_sums h =
    omega (arith, sum_by_few pairs_of (12 * 65535 * 65536) all_sums.node_sums (few_kept_at all_sums h), h.few_nodes)

-- the pairs of the nodes before one, and those of the node, are no more than all
pub few_with_next : (all_sums : AllSumsSeen) → IsSummed all_sums → (items : List NodeSums) (v : ℕ) (t : NodeSums) → items ≡ all_sums.node_sums → v < length items → t ≡ get_or items v t → pairs_in_all (take v all_sums.node_sums) + pairs_of t ≤ 12 * 65535 * 65536 * 65536
few_with_next all_sums h items v t same within here =
    let all : List NodeSums = all_sums.node_sums in
    let there : t ≡ get_or all v t = here ∙ ap (λ (ts : List NodeSums). get_or ts v t) same in
    let more : pairs_in_all (take (v + 1) all) ≡ pairs_in_all (take v all) + pairs_of t =
    ap pairs_in_all (take_more all v t (omega (arith, ap length same))) ∙ sum_by_push pairs_of (take v all) (get_or all v t) ∙ ap (λ (x : NodeSums). pairs_in_all (take v all) + pairs_of x) (sym there) in
    omega (arith, more, sum_by-take-le pairs_of all (v + 1), few_in_all all_sums h)

-- one term of a sum is replaced
pub recounted : (f : NodeSums → ℕ) (node_sums : List NodeSums) (node : ℕ) (before after : NodeSums) (n : ℕ) → slice_get node_sums node ≡ Some before → n ≡ sum_by f node_sums → (n - f before) + f after ≡ sum_by f (set node_sums node after)
recounted f node_sums node before after n there e =
    let within = slice_get_within node_sums node before there in
    let here = ap f (get_or_from_slice_get node_sums node before before there) in
    omega (arith, e, here, sum_by-set f node_sums node after before within, get_or-le-sum_by f node_sums node before within)

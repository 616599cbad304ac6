-- Lists of sums as the entries of a chain.
use Rattle.std.proofs.Common.{◌≡◌, ◌≢◌, ◌∙◌, sym, ap, refl, ℕ, ◌+◌, ◌*◌, ◌≤◌, ◌^◌, Bool, true, false, cond, List, [], ◌∷◌, ◌++◌, length, ℤ, pos, ◌+ℤ◌, arith}
use Rattle.std.specs.Prelude.{Option, Some, unwrap_or, IsTrue, map}
use Rattle.std.specs.declared.cmp.Ordering.{Ordering}
use Rattle.std.specs.declared.cmp.Ordering.TheVariants.{Less, Equal, Greater}
use Rattle.std.specs.Ordering.{is_eq, is_lt}
use Rattle.std.specs.List.{AllByRecursion}
use Rattle.std.specs.List.Sorted.{IsStrictlySortedBy}
use Rattle.std.specs.Map.{lookup, keys_of}
use Rattle.std.specs.BTreeMap.{is_at}
use Rattle.std.proofs.lemmas.Cmp.{tied_itself}
use Rattle.std.proofs.lemmas.Int.{ints}
use Rattle.std.proofs.lemmas.List.Elements.{All-from_recursion, All-map, All-contains}
use Rattle.std.proofs.lemmas.Map.Keys.{sorted_head, sorted_tail}
use Rattle.mesh_model.specs.Nets.{Pair, is_forward, is_pair_before, Ascend}
use Rattle.edge_chain.specs.declared.edges.Edge.{Edge}
use Rattle.edge_chain.specs.declared.edges.BorderEdge.{BorderEdge}
use Rattle.edge_chain.specs.Borders.{AddsEdges}
use Rattle.edge_chain.specs.Chains.{Chain, kept_net, AreEntries}
use Rattle.edge_chain.specs.Orders.{is_pair_before_is}
use Rattle.edge_chain.specs.Entries.{entry_at, held_is}
use Rattle.edge_chain.specs.Edges.{edge_cmp, edge_cmp_total, edge_cmp_exact, pair_of, edge_of}
use Rattle.edge_chain.specs.Gaps.{at_key, IsTight, tight_tail}
use Rattle.edge_chain.specs.Gathers.{Gathered}
use Rattle.edge_chain.specs.Totals.{part, total, normal}
use Rattle.edge_chain.specs.Sums.{sums_of, AreSums, seen, entries_of, chain_of}
use Rattle.edge_chain.proofs.TotalLaws.{weight-nil, weight-append, total-nil, total-cons, total-append, none_total, tied_behind, normal_tight, total-normal, at_normal, normal_same, normal-nil, tight-nil}
use Rattle.edge_chain.proofs.EdgeLaws.{total_of_edges, none_backward, weight_of_edges}

lookup_seen : (es : List (Edge × ℤ)) (p : Pair) → entry_at (map seen es) p ≡ lookup (is_at (edge_cmp (edge_of p))) es
lookup_seen [] p = refl
lookup_seen (e ∷ es) p = ap (λ (o : Option ℤ). cond (is_at (edge_cmp (edge_of p)) e.0) (Some e.1) o) (lookup_seen es p)

held_seen : (es : List (Edge × ℤ)) (p : Pair) → kept_net (map seen es) p ≡ at_key edge_cmp es (edge_of p)
held_seen es p = held_is (map seen es) p ∙ ap (λ (o : Option ℤ). unwrap_or o (pos 0)) (lookup_seen es p)

-- what the entries hold is what the sums are in all
pub held_entries : (sums : List (Edge × ℤ)) (p : Pair) → kept_net (entries_of sums) p ≡ total edge_cmp sums (edge_of p)
held_entries sums p = held_seen (normal edge_cmp sums) p ∙ at_normal edge_cmp edge_cmp_total edge_cmp_exact sums (edge_of p)

all_after : (k : Edge) (es : List (Edge × ℤ)) → AllByRecursion (λ q. edge_cmp k q ≡ Less) (keys_of es) → AllByRecursion (λ q. IsTrue (is_pair_before (pair_of k) q)) (keys_of (map seen es))
all_after k [] h = tt
all_after k (e ∷ es) h = (is_pair_before_is (pair_of k) (pair_of e.0) ∙ ap is_lt h.0, all_after k es h.1)

ascend_seen : (es : List (Edge × ℤ)) → IsStrictlySortedBy edge_cmp (keys_of es) → Ascend (keys_of (map seen es))
ascend_seen [] h = tt
ascend_seen (e ∷ es) h =
    let after = all_after e.0 es (sorted_head edge_cmp e.0 (keys_of es) h) in
    let all = All-from_recursion (λ (q : Pair). IsTrue (is_pair_before (pair_of e.0) q)) (keys_of (map seen es)) after in
    (λ q there. All-contains (λ (q : Pair). IsTrue (is_pair_before (pair_of e.0) q)) (keys_of (map seen es)) q all there, ascend_seen es (sorted_tail edge_cmp e.0 (keys_of es) h))

-- ---- of which edges there are entries

tail_total : (e : Edge × ℤ) (es : List (Edge × ℤ)) (q : Edge) → IsTight edge_cmp (e ∷ es) → total edge_cmp es q ≢ pos 0 → (r : Ordering) → edge_cmp q e.0 ≡ r → total edge_cmp (e ∷ es) q ≢ pos 0
tail_total e es q h apart Less is = λ z. apart (let none : part edge_cmp q e ≡ pos 0 = ap (λ (r : Ordering). cond (is_eq r) e.1 (pos 0)) is in omega (arith, ints, total-cons edge_cmp e es q, none, z))
tail_total e es q h apart Equal is = absurd (apart (none_total edge_cmp q es (tied_behind edge_cmp edge_cmp_total edge_cmp_exact q e.0 (keys_of es) is (sorted_head edge_cmp e.0 (keys_of es) h.ascending))))
tail_total e es q h apart Greater is = λ z. apart (let none : part edge_cmp q e ≡ pos 0 = ap (λ (r : Ordering). cond (is_eq r) e.1 (pos 0)) is in omega (arith, ints, total-cons edge_cmp e es q, none, z))

head_total : (e : Edge × ℤ) (es : List (Edge × ℤ)) → IsTight edge_cmp (e ∷ es) → total edge_cmp (e ∷ es) e.0 ≡ e.1
head_total e es h =
    let here : part edge_cmp e.0 e ≡ e.1 = ap (λ (r : Ordering). cond (is_eq r) e.1 (pos 0)) (tied_itself edge_cmp_total e.0) in
    omega (arith, ints, total-cons edge_cmp e es e.0, here, none_total edge_cmp e.0 es (sorted_head edge_cmp e.0 (keys_of es) h.ascending))

-- what holds of each edge with a total other than 0 holds of the entries
keys_known : (P : Edge → Type 0) (es : List (Edge × ℤ)) → IsTight edge_cmp es → ((q : Edge) → total edge_cmp es q ≢ pos 0 → P q) → AllByRecursion (λ e. P e.0) es
keys_known P [] h known = tt
keys_known P (e ∷ es) h known = (
  known e.0 (λ z. h.not_zero.0 (sym (head_total e es h) ∙ z)),
  keys_known P es (tight_tail edge_cmp e es h) (λ q apart. known q (tail_total e es q h apart (edge_cmp q e.0) refl)),
)

-- only edges whose lesser point comes first have a total
abbrev pub AreForward : List (Edge × ℤ) → Type 0
AreForward sums = (q : Edge) → is_forward (pair_of q) ≡ false → total edge_cmp sums q ≡ pos 0

forward_by : (sums : List (Edge × ℤ)) → AreForward sums → (q : Edge) → total edge_cmp sums q ≢ pos 0 → (t : Bool) → is_forward (pair_of q) ≡ t → IsTrue (is_forward (pair_of q))
forward_by sums h q apart true e = e
forward_by sums h q apart false e = absurd (apart (h q e))

pub forward_at : (sums : List (Edge × ℤ)) → AreForward sums → (q : Edge) → total edge_cmp sums q ≢ pos 0 → IsTrue (is_forward (pair_of q))
forward_at sums h q apart = forward_by sums h q apart (is_forward (pair_of q)) refl

-- the totals that aren't 0 are entries
pub are_entries : (sums : List (Edge × ℤ)) → AreForward sums → AreEntries (entries_of sums)
are_entries sums h =
    let es = normal edge_cmp sums in
    let tight : IsTight edge_cmp es = normal_tight edge_cmp edge_cmp_total edge_cmp_exact sums in
    let known : AllByRecursion (λ e. IsTrue (is_forward (pair_of e.0))) es =
    keys_known (λ q. IsTrue (is_forward (pair_of q))) es tight (λ q apart. forward_at sums h q (λ z. apart (total-normal edge_cmp edge_cmp_total edge_cmp_exact sums q ∙ z))) in
    let forward = All-map (λ (e : Pair × ℤ). IsTrue (is_forward e.0)) seen es (All-from_recursion (λ (e : Edge × ℤ). IsTrue (is_forward (pair_of e.0))) es known) in
    let not_zero' = All-map (λ (e : Pair × ℤ). e.1 ≢ pos 0) seen es (All-from_recursion (λ (e : Edge × ℤ). e.1 ≢ pos 0) es tight.not_zero) in
    record {
      ascending = ascend_seen es tight.ascending;
      forward = λ e there. All-contains (λ (e : Pair × ℤ). IsTrue (is_forward e.0)) (entries_of sums) e forward there;
      not_zero = λ e there. All-contains (λ (e : Pair × ℤ). e.1 ≢ pos 0) (entries_of sums) e not_zero' there;
    }

pub same_entries : (here there : List (Edge × ℤ)) → ((q : Edge) → total edge_cmp here q ≡ total edge_cmp there q) → entries_of here ≡ entries_of there
same_entries here there same = ap (λ (es : List (Edge × ℤ)). map seen es) (normal_same edge_cmp edge_cmp_total edge_cmp_exact here there same)

pub same_chain : (here there : List (Edge × ℤ)) (n : ℕ) → ((q : Edge) → total edge_cmp here q ≡ total edge_cmp there q) → chain_of here n ≡ chain_of there n
same_chain here there n same = ap (λ (es : List (Pair × ℤ)). let chain : Chain = record { entries = es; count = n } in chain) (same_entries here there same)

-- ---- sums of a chain, on the way

pub no_sums : AreSums [] true 0
no_sums = record {
  forward = λ q _. total-nil edge_cmp q;
  small = omega (arith, weight-nil Edge);
  few = omega arith;
  tight = λ _. tight-nil edge_cmp;
}

pub entries-nil : entries_of [] ≡ []
entries-nil = ap (λ (es : List (Edge × ℤ)). map seen es) (normal-nil edge_cmp edge_cmp_total edge_cmp_exact)

pub gathered_sums : (sums after : List (Edge × ℤ)) (was now' : Bool) (n : ℕ) → AreSums sums was n → Gathered edge_cmp sums after → AreSums after now' n
gathered_sums sums after was now' n h k = record {
  forward = λ q back. k.totals q ∙ h.forward q back;
  small = omega (arith, h.small, k.weights);
  few = h.few;
  tight = λ _. k.tight;
}

pub gathered_chain : (sums after : List (Edge × ℤ)) (n : ℕ) → Gathered edge_cmp sums after → chain_of after n ≡ chain_of sums n
gathered_chain sums after n k = same_chain after sums n k.totals

pub more_sums : (sums : List (Edge × ℤ)) (edges : List BorderEdge) (was : Bool) (n m : ℕ) → AreSums sums was n → n + m ≤ 2 ^ 60 → length edges ≤ 3 * m → AreSums (sums ++ sums_of edges) false (n + m)
more_sums sums edges was n m h room few = record {
  forward = λ q back. omega (arith, ints, total-append edge_cmp sums (sums_of edges) q, h.forward q back, none_backward edges q back);
  small = omega (arith, weight-append sums (sums_of edges), weight_of_edges edges, h.small);
  few = room;
  tight = λ e. absurd cc;
}

pub adds_edges : (sums : List (Edge × ℤ)) (edges : List BorderEdge) (was : Bool) (n m : ℕ) → AreSums sums was n → n + m ≤ 2 ^ 60 → length edges ≤ 3 * m → AddsEdges edges m (chain_of sums n) (chain_of (sums ++ sums_of edges) (n + m))
adds_edges sums edges was n m h room few = record {
  count = refl;
  nets = λ p forward.
      held_entries (sums ++ sums_of edges) p ∙ total-append edge_cmp sums (sums_of edges) (edge_of p)
      ∙ (λ i. sym (held_entries sums p) i +ℤ total_of_edges edges p forward i);
  entries = are_entries (sums ++ sums_of edges) (more_sums sums edges was n m h room few).forward;
}

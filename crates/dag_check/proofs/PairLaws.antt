-- How many pairs of points can be open in so many triangles.
use Rattle.std.specs.Prelude.{◌≡◌, ◌≢◌, ◌+◌, ◌*◌, ◌<◌, ◌≤◌, Bool, true, List, [], ◌∷◌, length, pos, refl}
use Rattle.std.specs.List.{list_any, Contains}
use Rattle.std.specs.Ordering.{eq_by_cmp}
use Rattle.std.specs.Bool.{Decides}
use Rattle.std.specs.Set.{is_member}
use Rattle.std.proofs.Common.{sym, ap, ◌∙◌, arith}
use Rattle.std.proofs.Math.Bool.{and_comm}
use Rattle.std.proofs.lemmas.Bool.{lt-ltb}
use Rattle.std.proofs.lemmas.Cmp.{eq_by_cmp_equiv}
use Rattle.std.proofs.lemmas.Int.{ints}
use Rattle.std.proofs.lemmas.Map.Keys.{IsDistinct-from_sorted}
use Rattle.std.proofs.lemmas.Map.Made.{length-le_from_is_member, is_member-Decides}
use Rattle.std.proofs.lemmas.Map.Views.{tells_apart}
use Rattle.std.proofs.lemmas.List.Sums.{sum_by-cons}
use Rattle.grid_vertex.specs.declared.triangles.Triangle.{Triangle}
use Rattle.grid_vertex.specs.declared.points.Point.{Point}
use Rattle.grid_vertex.specs.Points.{is_same_point}
use Rattle.mesh_model.specs.Nets.{Pair, net, times, edge_times, is_edge, one_if, AreOpen}
use Rattle.edge_chain.specs.Chains.{is_same_pair}
use Rattle.edge_chain.specs.Orders.{pair_cmp, pair_cmp_total, pair_cmp_exact, is_same_pair_is}
use Rattle.edge_chain.specs.Entries.{sorted_from_ascend}
use Rattle.dag_check.specs.NodeSums.{how_many}
use Rattle.dag_check.proofs.CountLaws.{how_many-cons, any_is}

abbrev pair : Point → Point → Pair
pair a b = record { a = a; b = b }

-- each triangle's edges, in both directions
abbrev edges : List Triangle → List Pair
edges [] = []
edges (t ∷ ts) = pair t.a t.b ∷ pair t.b t.c ∷ pair t.c t.a ∷ pair t.b t.a ∷ pair t.c t.b ∷ pair t.a t.c ∷ edges ts

length-edges : (ts : List Triangle) → length (edges ts) ≡ 6 * length ts
length-edges [] = refl
length-edges (t ∷ ts) = omega (arith, length-edges ts)

turned_edge : (p : Pair) (a b : Point) → one_if (is_edge p.b p.a a b) ≡ one_if (is_same_pair (pair b a) p)
turned_edge p a b = ap one_if (and_comm (is_same_point a p.b) (is_same_point b p.a))

-- the pair stands among the edges as often as it is an edge, one way or the other
how_many-edges : (p : Pair) (ts : List Triangle) → how_many (λ q. is_same_pair q p) (edges ts) ≡ times ts p.a p.b + times ts p.b p.a
unfolding times edge_times how_many
how_many-edges p [] = refl
how_many-edges p (t ∷ ts) =
    let same : Pair → Bool = λ q. is_same_pair q p in
    let e1 = pair t.a t.b in let e2 = pair t.b t.c in let e3 = pair t.c t.a in let e4 = pair t.b t.a in let e5 = pair t.c t.b in let e6 = pair t.a t.c in
    omega (
      arith,
      how_many-cons same e1 (e2 ∷ e3 ∷ e4 ∷ e5 ∷ e6 ∷ edges ts),
      how_many-cons same e2 (e3 ∷ e4 ∷ e5 ∷ e6 ∷ edges ts),
      how_many-cons same e3 (e4 ∷ e5 ∷ e6 ∷ edges ts),
      how_many-cons same e4 (e5 ∷ e6 ∷ edges ts),
      how_many-cons same e5 (e6 ∷ edges ts),
      how_many-cons same e6 (edges ts),
      sum_by-cons (edge_times p.a p.b) t ts,
      sum_by-cons (edge_times p.b p.a) t ts,
      turned_edge p t.a t.b,
      turned_edge p t.b t.c,
      turned_edge p t.c t.a,
      how_many-edges p ts,
    )

-- a pair whose net isn't 0 is an edge
is_edge_of : (p : Pair) (ts : List Triangle) → net ts p.a p.b ≢ pos 0 → 0 < times ts p.a p.b + times ts p.b p.a
unfolding net
is_edge_of p ts h = omega (arith, ints)

same_pair : (q p : Pair) → Decides (eq_by_cmp pair_cmp q p) (q ≡ p)
same_pair q p = (tells_apart pair_cmp_exact q p, λ e. ap (λ (r : Pair). eq_by_cmp pair_cmp q r) (sym e) ∙ (eq_by_cmp_equiv pair_cmp_total).refl q)

same_by_cmp : (q p : Pair) → eq_by_cmp pair_cmp q p ≡ is_same_pair p q
same_by_cmp q p = (eq_by_cmp_equiv pair_cmp_total).symm q p ∙ sym (is_same_pair_is p q)

stands_among : (q : Pair) (ts : List Triangle) → net ts q.a q.b ≢ pos 0 → is_member (eq_by_cmp pair_cmp) (edges ts) q ≡ true
stands_among q ts h =
    ap (λ (test : Pair → Bool). list_any test (edges ts)) (λ i p. same_by_cmp q p i)
    ∙ any_is (λ p. is_same_pair p q) (edges ts)
    ∙ lt-ltb 0 (how_many (λ p. is_same_pair p q) (edges ts)) (omega (arith, how_many-edges q ts, is_edge_of q ts h))

-- no more than six for each triangle
pub few_pairs : (ts : List Triangle) (pairs : List Pair) → AreOpen ts pairs → length pairs ≤ 6 * length ts
few_pairs ts pairs opens =
    let distinct = IsDistinct-from_sorted pair_cmp pairs (sorted_from_ascend pairs opens.ascending) in
    let open_pair : (q : Pair) → Contains pairs q → net ts q.a q.b ≢ pos 0 = λ q there. (opens.open_edges q (opens.forward q there)).0 there in
    let few : length pairs ≤ length (edges ts) = length-le_from_is_member (eq_by_cmp_equiv pair_cmp_total) pairs (edges ts) distinct (λ q there. stands_among q ts (open_pair q ((is_member-Decides same_pair pairs q).0 there))) in
    omega (arith, length-edges ts, few)

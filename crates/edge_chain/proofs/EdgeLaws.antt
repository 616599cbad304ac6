-- What edges add to totals is their net.
use Rattle.std.proofs.Common.{◌≡◌, ◌≢◌, ◌∙◌, sym, ap, subst, refl, ◌+◌, ◌≤◌, Bool, true, false, cond, ◌&&◌, List, [], ◌∷◌, length, ℤ, pos, negsuc, ◌-ℤ◌, arith}
use Rattle.std.specs.Prelude.{IsTrue, unsigned_abs}
use Rattle.std.specs.declared.cmp.Ordering.{Ordering}
use Rattle.std.specs.declared.cmp.Ordering.TheVariants.{Less, Equal, Greater}
use Rattle.std.specs.Ordering.{is_eq, is_lt, ordering_reverse}
use Rattle.std.specs.BTreeMap.{is_at}
use Rattle.std.specs.Cmp.{Equal-is}
use Rattle.std.proofs.lemmas.Bool.{false_from_ne_true}
use Rattle.std.proofs.lemmas.Cmp.{tied_itself, eq_by_cmp_equiv}
use Rattle.std.proofs.lemmas.Int.{ints}
use Rattle.std.proofs.lemmas.List.Sums.{sum_by-cons}
use Rattle.grid_vertex.specs.declared.points.Point.{Point}
use Rattle.grid_vertex.specs.declared.triangles.Triangle.{Triangle}
use Rattle.grid_vertex.specs.Points.{is_same_point}
use Rattle.mesh_model.specs.Nets.{one_if, is_edge, edge_times, times, net, Pair, is_before, is_forward}
use Rattle.mesh_model.specs.Orders.{point_exact, before_one_way}
use Rattle.edge_chain.specs.declared.edges.Edge.{Edge}
use Rattle.edge_chain.specs.declared.edges.BorderEdge.{BorderEdge}
use Rattle.edge_chain.specs.Orders.{point_cmp, point_cmp_total, point_cmp_exact, is_before_is, is_same_point_is, is_same_pair_is}
use Rattle.edge_chain.specs.Borders.{edges_times, edges_net, AreBorder}
use Rattle.edge_chain.specs.Edges.{edge_cmp, edge_cmp_total, edge_cmp_exact, side_of, sides_of, edge_of, pair_of}
use Rattle.edge_chain.specs.Sums.{sums_of_edge, sums_of}
use Rattle.edge_chain.specs.Totals.{weight, part, total}
use Rattle.edge_chain.proofs.TotalLaws.{weight-nil, weight-append, weight-one, total-nil, total-one, total-append}

same_itself : (p : Point) → is_same_point p p ≡ true
same_itself p = is_same_point_is p p ∙ ap is_eq (tied_itself point_cmp_total p)

apart_from : (p q : Point) → is_same_point p q ≡ false → p ≢ q
apart_from p q e same =
    let here : is_same_point p q ≡ true = ap (λ (r : Point). is_same_point p r) (sym same) ∙ same_itself p in
    absurd cc

-- of two different points one comes before the other
by_order : (p q : Point) → p ≢ q → (o : Ordering) → point_cmp p q ≡ o → is_lt o ≡ false → is_lt (ordering_reverse o) ≡ true
by_order p q apart Less h e = absurd cc
by_order p q apart Equal h e = absurd (apart (point_cmp_exact p q h))
by_order p q apart Greater h e = refl

back_before : (p q : Point) → p ≢ q → is_before p q ≡ false → is_before q p ≡ true
back_before p q apart e =
    is_before_is q p ∙ ap is_lt (point_cmp_total.antisymm q p)
    ∙ by_order p q apart (point_cmp p q) refl (sym (is_before_is p q) ∙ e)

-- ---- the net of one triangle

and_no : (a b : Bool) → (a ≡ true → b ≡ true → ⊥) → (a && b) ≡ false
and_no true true h = absurd (h refl refl)
and_no true false h = refl
and_no false b h = refl

and_swap : (a b : Bool) → (a && b) ≡ (b && a)
and_swap true true = refl
and_swap true false = refl
and_swap false true = refl
and_swap false false = refl

one_way_net : (there back : Bool) → back ≡ false → pos (one_if there) -ℤ pos (one_if back) ≡ cond there (pos 1) (pos 0)
one_way_net true true e = absurd cc
one_way_net true false e = refl
one_way_net false true e = absurd cc
one_way_net false false e = refl

other_way_net : (there back : Bool) → there ≡ false → pos (one_if there) -ℤ pos (one_if back) ≡ cond back (negsuc 0) (pos 0)
other_way_net true back e = absurd cc
other_way_net false true e = refl
other_way_net false false e = refl

-- an edge that goes back where the directed edge goes forward, and the other way round
no_back : (from to : Point) (p : Pair) → IsTrue (is_forward p) → is_before from to ≡ true → is_edge p.b p.a from to ≡ false
no_back from to p forward e = and_no (is_same_point from p.b) (is_same_point to p.a) (λ x y.
    let there : is_before p.b p.a ≡ true = subst (λ (q : Point). is_before q p.a ≡ true) (point_exact from p.b x) (subst (λ (q : Point). is_before from q ≡ true) (point_exact to p.a y) e) in
    before_one_way p.a p.b forward there)

no_there : (from to : Point) (p : Pair) → IsTrue (is_forward p) → is_before from to ≡ false → is_edge p.a p.b from to ≡ false
no_there from to p forward e = and_no (is_same_point from p.a) (is_same_point to p.b) (λ x y.
    let there : is_before p.a p.b ≡ false = subst (λ (q : Point). is_before q p.b ≡ false) (point_exact from p.a x) (subst (λ (q : Point). is_before from q ≡ false) (point_exact to p.b y) e) in
    let clash : is_before p.a p.b ≡ true = forward in
    absurd cc)

-- what stands at an edge counts there
at_edge : (d q : Edge) → is_eq (edge_cmp d q) ≡ is_at (edge_cmp q) d
at_edge d q = (eq_by_cmp_equiv edge_cmp_total).symm d q

edge_exact : (d q : Edge) → is_at (edge_cmp q) d ≡ true → q ≡ d
edge_exact d q e = edge_cmp_exact q d ((Equal-is (edge_cmp q d)).0 e)

abbrev side_if : (t : Bool) (p q : Point) → Edge × ℤ
side_if t p q = cond t (record { a = p; b = q }, pos 1) (record { a = q; b = p }, negsuc 0)

side_net_if : (t : Bool) (from to : Point) (p : Pair) → IsTrue (is_forward p) → is_before from to ≡ t → pos (one_if (is_edge p.a p.b from to)) -ℤ pos (one_if (is_edge p.b p.a from to)) ≡ part edge_cmp (edge_of p) (side_if t from to)
side_net_if true from to p forward e =
    one_way_net (is_edge p.a p.b from to) (is_edge p.b p.a from to) (no_back from to p forward e)
    ∙ ap (λ (t : Bool). cond t (pos 1) (pos 0)) (is_same_pair_is (record { a = from; b = to }) p ∙ at_edge (record { a = from; b = to }) (edge_of p))
side_net_if false from to p forward e =
    other_way_net (is_edge p.a p.b from to) (is_edge p.b p.a from to) (no_there from to p forward e)
    ∙ ap (λ (t : Bool). cond t (negsuc 0) (pos 0)) (and_swap (is_same_point from p.b) (is_same_point to p.a) ∙ is_same_pair_is (record { a = to; b = from }) p ∙ at_edge (record { a = to; b = from }) (edge_of p))

side_net : (from to : Point) (p : Pair) → IsTrue (is_forward p) → pos (one_if (is_edge p.a p.b from to)) -ℤ pos (one_if (is_edge p.b p.a from to)) ≡ part edge_cmp (edge_of p) (side_of from to)
side_net from to p forward = side_net_if (is_before from to) from to p forward refl

-- an edge from a point to itself has no net at two different points
not_before_itself : (p : Point) → is_before p p ≡ true → ⊥
not_before_itself p h = before_one_way p p h h

none_at : (from to x y : Point) → is_same_point from to ≡ true → (x ≡ y → ⊥) → is_edge x y from to ≡ false
none_at from to x y same apart = and_no (is_same_point from x) (is_same_point to y) (λ h k. apart (sym (point_exact from x h) ∙ point_exact from to same ∙ point_exact to y k))

edge_net_if : (t : Bool) (e : BorderEdge) (p : Pair) → IsTrue (is_forward p) → is_same_point e.from e.to ≡ t → total edge_cmp (cond t [] (side_of e.from e.to ∷ [])) (edge_of p) ≡ pos (one_if (is_edge p.a p.b e.from e.to)) -ℤ pos (one_if (is_edge p.b p.a e.from e.to))
edge_net_if false e p forward same = total-one edge_cmp (side_of e.from e.to) (edge_of p) ∙ sym (side_net e.from e.to p forward)
edge_net_if true e p forward same =
    let apart : p.a ≡ p.b → ⊥ = λ h. not_before_itself p.a (ap (λ (q : Point). is_before p.a q) h ∙ forward) in
    let there = none_at e.from e.to p.a p.b same apart in
    let back = none_at e.from e.to p.b p.a same (λ h. apart (sym h)) in
    rw (there, back) (total-nil edge_cmp (edge_of p))

edge_net : (e : BorderEdge) (p : Pair) → IsTrue (is_forward p) → total edge_cmp (sums_of_edge e) (edge_of p) ≡ pos (one_if (is_edge p.a p.b e.from e.to)) -ℤ pos (one_if (is_edge p.b p.a e.from e.to))
edge_net e p forward = edge_net_if (is_same_point e.from e.to) e p forward refl

times-cons : (e : BorderEdge) (es : List BorderEdge) (a b : Point) → edges_times (e ∷ es) a b ≡ one_if (is_edge a b e.from e.to) + edges_times es a b
unfolding edges_times
times-cons e es a b = sum_by-cons (λ e. one_if (is_edge a b e.from e.to)) e es

times-nil : (a b : Point) → edges_times [] a b ≡ 0
unfolding edges_times
times-nil a b = refl

-- what edges add in all is their net
pub total_of_edges : (edges : List BorderEdge) (p : Pair) → IsTrue (is_forward p) → total edge_cmp (sums_of edges) (edge_of p) ≡ edges_net edges p.a p.b
unfolding edges_net
total_of_edges [] p forward = omega (arith, ints, total-nil edge_cmp (edge_of p), times-nil p.a p.b, times-nil p.b p.a)
total_of_edges (e ∷ es) p forward =
    omega (arith, ints, total-append edge_cmp (sums_of_edge e) (sums_of es) (edge_of p), edge_net e p forward, total_of_edges es p forward, times-cons e es p.a p.b, times-cons e es p.b p.a)

-- ---- the lesser point of each edge comes first

forward_if : (from to : Point) → is_same_point from to ≡ false → (t : Bool) → is_before from to ≡ t → IsTrue (is_forward (pair_of (side_if t from to).0))
forward_if from to apart true e = e
forward_if from to apart false e = back_before from to (apart_from from to apart) e

forward_side : (from to : Point) → is_same_point from to ≡ false → IsTrue (is_forward (pair_of (side_of from to).0))
forward_side from to apart = forward_if from to apart (is_before from to) refl

none_aside : (side : Edge × ℤ) (q : Edge) → IsTrue (is_forward (pair_of side.0)) → is_forward (pair_of q) ≡ false → part edge_cmp q side ≡ pos 0
none_aside side q forward back =
    let apart : is_at (edge_cmp q) side.0 ≡ false = false_from_ne_true _ (λ e. let ahead : is_forward (pair_of q) ≡ true = ap (λ (x : Edge). is_forward (pair_of x)) (edge_exact side.0 q e) ∙ forward in absurd cc) in
    ap (λ (t : Bool). cond t side.1 (pos 0)) apart

aside_if : (t : Bool) (e : BorderEdge) (q : Edge) → is_forward (pair_of q) ≡ false → is_same_point e.from e.to ≡ t → total edge_cmp (cond t [] (side_of e.from e.to ∷ [])) q ≡ pos 0
aside_if true e q back same = total-nil edge_cmp q
aside_if false e q back same = total-one edge_cmp (side_of e.from e.to) q ∙ none_aside (side_of e.from e.to) q (forward_side e.from e.to same) back

-- edges add nothing where the greater point comes first
pub none_backward : (edges : List BorderEdge) (q : Edge) → is_forward (pair_of q) ≡ false → total edge_cmp (sums_of edges) q ≡ pos 0
none_backward [] q back = total-nil edge_cmp q
none_backward (e ∷ es) q back =
    omega (arith, ints, total-append edge_cmp (sums_of_edge e) (sums_of es) q, aside_if (is_same_point e.from e.to) e q back refl, none_backward es q back)

-- ---- how much they weigh

turn_if : (t : Bool) (p q : Point) → unsigned_abs (side_if t p q).1 ≤ 1
turn_if true p q = omega arith
turn_if false p q = omega arith

weight_edge : (t : Bool) (e : BorderEdge) → weight (cond t [] (side_of e.from e.to ∷ [])) ≤ 1
weight_edge true e = omega (arith, weight-nil Edge)
weight_edge false e = omega (arith, weight-one (side_of e.from e.to), turn_if (is_before e.from e.to) e.from e.to)

pub weight_of_edges : (edges : List BorderEdge) → weight (sums_of edges) ≤ length edges
weight_of_edges [] = omega (arith, weight-nil Edge)
weight_of_edges (e ∷ es) = omega (arith, weight-append (sums_of_edge e) (sums_of es), weight_edge (is_same_point e.from e.to) e, weight_of_edges es)

-- ---- a triangle

-- a triangle's sides are its border
pub sides_are_border : (t : Triangle) → AreBorder (sides_of t) (t ∷ [])
unfolding edges_net edges_times net times edge_times
sides_are_border t a b = omega (arith, ints)

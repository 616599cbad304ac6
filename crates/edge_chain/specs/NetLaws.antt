-- Laws of nets, and of the chains that hold them.
use Rattle.std.specs.Prelude.{◌≡◌, ◌↔◌, ◌+◌, true, List, [], ◌∷◌, ◌++◌, length, ℤ, pos, ◌+ℤ◌, neg_ℤ, IsTrue, refl}
use Rattle.std.proofs.Common.{sym, ap, ◌∙◌, arith, length-append}
use Rattle.std.specs.declared.cmp.Ordering.{Ordering}
use Rattle.std.specs.declared.cmp.Ordering.TheVariants.{Less, Equal, Greater}
use Rattle.std.specs.Ordering.{is_lt, ordering_reverse}
use Rattle.std.specs.Map.{keys_of}
use Rattle.std.proofs.lemmas.Int.{ints}
use Rattle.grid_vertex.specs.declared.points.Point.{Point}
use Rattle.grid_vertex.specs.declared.triangles.Triangle.{Triangle}
use Rattle.mesh_model.specs.Nets.{times, net, Pair, is_before, is_forward, AreOpen, HaveOneNet}
use Rattle.mesh_model.specs.NetLaws.{times-append}
use Rattle.edge_chain.specs.declared.differences.Difference.{Difference}
use Rattle.edge_chain.specs.declared.edges.BorderEdge.{BorderEdge}
use Rattle.edge_chain.specs.Borders.{AreBorder, AddsEdges}
use Rattle.edge_chain.specs.Chains.{kept_net, Chain, HoldSame, Adds, IsNetOf, IsFirstDifference, IsFirstNetDifference}
use Rattle.edge_chain.specs.Orders.{point_cmp, point_cmp_total, point_cmp_exact, is_before_is}
use Rattle.edge_chain.specs.Entries.{entry_from_key, contains_key_from_held, entries_from_held}

-- the net of two lists together is the sum of theirs
pub net-append : (first second : List Triangle) (a b : Point) → net (first ++ second) a b ≡ net first a b +ℤ net second a b
unfolding net
net-append first second a b = omega (arith, ints, times-append first second a b, times-append first second b a)

pub net-nil : (a b : Point) → net [] a b ≡ pos 0
unfolding net times
net-nil a b = refl

-- the other way round it has the other sign
pub net-turned : (triangles : List Triangle) (a b : Point) → net triangles b a ≡ neg_ℤ (net triangles a b)
unfolding net
net-turned triangles a b = omega (arith, ints)

pub net-itself : (triangles : List Triangle) (a : Point) → net triangles a a ≡ pos 0
unfolding net
net-itself triangles a = omega (arith, ints)

-- nets that are one at each pair with the lesser point first are one at each
one_net_at : (first second : List Triangle) (a b : Point) (o : Ordering) → point_cmp a b ≡ o → ((p : Pair) → IsTrue (is_forward p) → net first p.a p.b ≡ net second p.a p.b) → net first a b ≡ net second a b
one_net_at first second a b Less e h = h (record { a = a; b = b }) (is_before_is a b ∙ ap is_lt e)
one_net_at first second a b Equal e h =
    let same = point_cmp_exact a b e in
    ap (λ (q : Point). net first a q) (sym same) ∙ net-itself first a ∙ sym (net-itself second a) ∙ ap (λ (q : Point). net second a q) same
one_net_at first second a b Greater e h =
    let back : is_before b a ≡ true = is_before_is b a ∙ ap is_lt (point_cmp_total.antisymm b a ∙ ap ordering_reverse e) in
    net-turned first b a ∙ ap neg_ℤ (h (record { a = b; b = a }) back) ∙ sym (net-turned second b a)

pub one_net_from_forward : (first second : List Triangle) → ((p : Pair) → IsTrue (is_forward p) → net first p.a p.b ≡ net second p.a p.b) → HaveOneNet first second
one_net_from_forward first second h a b = one_net_at first second a b (point_cmp a b) refl h

-- more triangles, by their border
pub IsNetOf-add_edges : (triangles more : List Triangle) (edges : List BorderEdge) (before after : Chain) → IsNetOf triangles before → AddsEdges edges (length more) before after → AreBorder edges more → IsNetOf (triangles ++ more) after
IsNetOf-add_edges triangles more edges before after h k border = record {
  count = k.count ∙ ap (λ n. n + length more) h.count ∙ sym (length-append triangles more);
  nets = λ p forward. k.nets p forward ∙ (λ i. h.nets p forward i +ℤ border p.a p.b i) ∙ sym (net-append triangles more p.a p.b);
  entries = k.entries;
}

-- one more triangle
pub IsNetOf-add : (triangles : List Triangle) (triangle : Triangle) (before after : Chain) → IsNetOf triangles before → Adds triangle before after → IsNetOf (triangles ++ triangle ∷ []) after
IsNetOf-add triangles triangle before after h k = record {
  count = k.count ∙ ap (λ n. n + 1) h.count ∙ sym (length-append triangles (triangle ∷ []));
  nets = λ p forward. k.nets p forward ∙ ap (λ (z : ℤ). z +ℤ net (triangle ∷ []) p.a p.b) (h.nets p forward) ∙ sym (net-append triangles (triangle ∷ []) p.a p.b);
  entries = k.entries;
}

-- the chain's pairs are those that are open in the triangles
pub open_from_net : (triangles : List Triangle) (chain : Chain) → IsNetOf triangles chain → AreOpen triangles (keys_of chain.entries)
open_from_net triangles chain h = record {
  ascending = h.entries.ascending;
  forward = λ p there. (entry_from_key chain.entries h.entries p there).forward;
  open_edges = λ p forward. (
    λ there z. (entry_from_key chain.entries h.entries p there).not_zero (h.nets p forward ∙ z),
    λ apart. contains_key_from_held chain.entries p (λ z. apart (sym (h.nets p forward) ∙ z)),
  );
}

-- two chains hold the same exactly where their triangles have one net
pub one_net_iff : (first second : List Triangle) (here there : Chain) → IsNetOf first here → IsNetOf second there → HoldSame here.entries there.entries ↔ HaveOneNet first second
one_net_iff first second here there h k = (
  λ same. one_net_from_forward first second (λ p forward. sym (h.nets p forward) ∙ same p forward ∙ k.nets p forward),
  λ one p forward. h.nets p forward ∙ one p.a p.b ∙ sym (k.nets p forward),
)

-- so do their entries
pub same_entries_iff : (first second : List Triangle) (here there : Chain) → IsNetOf first here → IsNetOf second there → (here.entries ≡ there.entries) ↔ HaveOneNet first second
same_entries_iff first second here there h k = (
  λ e. (one_net_iff first second here there h k).0 (λ p _. ap (λ (es : List (Pair × ℤ)). kept_net es p) e),
  λ one. entries_from_held here.entries there.entries h.entries k.entries ((one_net_iff first second here there h k).1 one),
)

-- the first difference of two chains is that of their nets
pub net_difference : (first second : List Triangle) (here there : Chain) (difference : Difference) → IsNetOf first here → IsNetOf second there → IsFirstDifference here.entries there.entries difference → IsFirstNetDifference first second difference
net_difference first second here there difference h k is =
    let pair : Pair = record { a = difference.a; b = difference.b } in
    record {
      forward = is.forward;
      here_is = sym (h.nets pair is.forward) ∙ is.here_is;
      there_is = sym (k.nets pair is.forward) ∙ is.there_is;
      differs = is.differs;
      least = λ p forward before. sym (h.nets p forward) ∙ is.least p forward before ∙ k.nets p forward;
    }

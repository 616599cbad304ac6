-- An edge adds its sum, or nothing if it goes from a point to itself.
use Rattle.std.proofs.Common.{◌≡◌, ◌∙◌, sym, ap, refl, Bool, true, false, cond, ℕ, ◌+◌, ◌<◌, arith, length, take, get_or, List, [], ◌∷◌, ◌++◌, ℤ, Vec, Global}
use Rattle.std.specs.declared.cmp.Ordering.{Ordering}
use Rattle.std.specs.declared.cmp.Ordering.TheVariants.{Less, Equal, Greater}
use Rattle.std.specs.Ordering.{is_eq, is_ne}
use Rattle.std.proofs.lemmas.List.{append-nil, flat_map_more, take_more}
use Rattle.edge_chain.specs.declared.edges.Edge.{Edge}
use Rattle.edge_chain.specs.declared.edges.BorderEdge.{BorderEdge}
use Rattle.edge_chain.specs.Edges.{side_of}
use Rattle.edge_chain.specs.Orders.{point_cmp, is_same_point_is}
use Rattle.edge_chain.specs.Sums.{sums_of_edge, sums_of}
use Rattle.edge_chain.proofs.sums.push_edges.Goals as goal
use Rattle.edge_chain.proofs.sums.push_edges.Goals.{then-is_ne, else-is_ne}

apart_is : (o : Ordering) → is_ne o ≡ true → is_eq o ≡ false
apart_is Less e = refl
apart_is Equal e = absurd cc
apart_is Greater e = refl

tied_is : (o : Ordering) → is_ne o ≡ false → is_eq o ≡ true
tied_is Less e = absurd cc
tied_is Equal e = refl
tied_is Greater e = absurd cc

module _ (first before after : List (Edge × ℤ)) (edges : List BorderEdge) (k : ℕ) (d : BorderEdge) (within : k < length edges) (so_far : before ≡ first ++ sums_of (take k edges)) where
  abbrev next : BorderEdge
  next = get_or edges k d

  more : after ≡ before ++ sums_of_edge next → after ≡ first ++ sums_of (take (k + 1) edges)
  more is =
      is ∙ ap (λ (es : List (Edge × ℤ)). es ++ sums_of_edge next) so_far ∙ flat_map_more sums_of_edge first (take k edges) next
      ∙ ap (λ (es : List BorderEdge). first ++ sums_of es) (sym (take_more edges k d within))

  pushed : is_ne (point_cmp next.from next.to) ≡ true → after ≡ before ++ side_of next.from next.to ∷ [] → after ≡ first ++ sums_of (take (k + 1) edges)
  pushed apart is =
      more (is ∙ ap (λ (t : Bool). before ++ cond t [] (side_of next.from next.to ∷ [])) (sym (is_same_point_is next.from next.to ∙ apart_is (point_cmp next.from next.to) apart)))

  skipped : is_ne (point_cmp next.from next.to) ≡ false → after ≡ before → after ≡ first ++ sums_of (take (k + 1) edges)
  skipped tied is =
      more (is ∙ sym (append-nil before) ∙ ap (λ (t : Bool). before ++ cond t [] (side_of next.from next.to ∷ [])) (sym (is_same_point_is next.from next.to ∙ tied_is (point_cmp next.from next.to) tied)))

abbrev Sums : Type 0
Sums = Vec (Edge × ℤ) Global

pub loop-edge-preserved : goal.loop-edge-preserved
loop-edge-preserved c =
    let so_far = c.loop-edge.invariant.items in
    let within = c.loop-edge-test.true in
    elim c.if-is_ne.branch [
      | then-is_ne w ↦ record {
        items =
            pushed c.args.sums.now.items c.loop-edge.sums.items c.if-is_ne.sums.items c.args.edges.now c.loop-edge.edge-index _ within so_far
            (ap is_ne (sym c.cmp.ensures) ∙ sym c.is_ne.ensures ∙ w.if-is_ne.true)
            (ap (λ (v : Sums). v.items) w.sums-is ∙ w.push_reserved.ensures.items ∙ ap (λ (e : Edge × ℤ). c.loop-edge.sums.items ++ e ∷ []) w.side.ensures);
        room = rw w.sums-is (omega (arith, w.push_reserved.ensures.len, w.push_reserved.ensures.capacity, c.loop-edge.invariant.room));
      }
      | else-is_ne w ↦ record {
        items =
            skipped c.args.sums.now.items c.loop-edge.sums.items c.if-is_ne.sums.items c.args.edges.now c.loop-edge.edge-index _ within so_far
            (ap is_ne (sym c.cmp.ensures) ∙ sym c.is_ne.ensures ∙ w.if-is_ne.false)
            (ap (λ (v : Sums). v.items) w.sums-is);
        room = rw w.sums-is (omega (arith, c.loop-edge.invariant.room));
      }
    ]

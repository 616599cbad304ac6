-- A triangle's sides are its border.
use Rattle.std.proofs.Common.{◌≡◌, ◌∙◌, ap, subst, List, ℤ, ◌+ℤ◌}
use Rattle.std.specs.Prelude.{Result, Ok, Err, OnOk}
use Rattle.grid_vertex.specs.declared.triangles.Triangle.{Triangle}
use Rattle.edge_chain.specs.declared.edges.BorderEdge.{BorderEdge}
use Rattle.edge_chain.specs.Borders.{AddsEdges}
use Rattle.edge_chain.specs.Chains.{Chain, kept_net, Adds}
use Rattle.edge_chain.specs.Edges.{sides_of}
use Rattle.edge_chain.specs.NetLaws.{IsNetOf-add}
use Rattle.edge_chain.proofs.EdgeLaws.{sides_are_border}
use Rattle.edge_chain.proofs.chains.EdgeChain.add.Goals as goal

on_ok_then : {A E : Type 0} (r : Result A E) (P Q : Type 0) → (P → Q) → OnOk r P → OnOk r Q
on_ok_then (Ok a) P Q h k = h k
on_ok_then (Err e) P Q h k = tt

adds : (t : Triangle) (edges : List BorderEdge) (before after : Chain) → edges ≡ sides_of t → AddsEdges edges 1 before after → Adds t before after
adds t edges before after sides h =
    let k = subst (λ (es : List BorderEdge). AddsEdges es 1 before after) sides h in
    record {
      count = k.count;
      nets = λ p forward. k.nets p forward ∙ ap (λ (z : ℤ). kept_net before.entries p +ℤ z) (sides_are_border t p.a p.b);
      entries = k.entries;
    }

added : (c : goal.After-add_edges) → OnOk c.add_edges.result (Adds c.args.triangle c.args.self.now c.add_edges.new.self)
added c = on_ok_then c.add_edges.result _ _ (adds c.args.triangle c.sides.result c.args.self.now c.add_edges.new.self c.sides.ensures) c.add_edges.ensures.added

pub returns-clause-added : goal.returns-clause-added
returns-clause-added c = added c

pub returns-clause-nets : goal.returns-clause-nets
returns-clause-nets c = on_ok_then c.add_edges.result _ _ (λ more triangles h. IsNetOf-add triangles c.args.triangle c.args.self.now c.add_edges.new.self h more) (added c)
